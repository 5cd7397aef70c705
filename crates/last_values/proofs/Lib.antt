-- What the proofs of more than one function use.
pub mod Family
pub mod Laws
pub mod Each
pub mod Rows
