-- Lemmas of the proofs.
pub mod Laws
pub mod GmnLaws
