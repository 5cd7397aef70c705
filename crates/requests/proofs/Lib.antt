-- Lemmas on the definitions, for the proofs of the code and for the crates above.
pub mod Laws
