-- Lemmas of the proofs, then what the crates above may cite.
pub mod Laws
pub mod First
pub mod Lengths
pub mod Halves
mod Abreast
