-- Lemmas of the proofs.
pub mod Laws
pub mod Mirror
pub mod Turns
