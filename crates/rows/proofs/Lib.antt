-- Lemmas on the definitions, for the proofs of the code and for the crates above, then a proof of `specs/Finite.antt`.
pub mod Laws
pub mod Filled
pub mod Finite
