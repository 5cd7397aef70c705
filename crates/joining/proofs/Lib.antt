-- Lemmas of the proofs.
pub mod Laws
pub mod Sweep
pub mod Signed
