-- Lemmas of the proofs.
pub mod Quotient
pub mod Places
