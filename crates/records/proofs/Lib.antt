-- What the proofs of more than one function use, and the crates above may cite.
pub mod Laws
