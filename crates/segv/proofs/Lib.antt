-- What the proofs of more than one function use.
pub mod Laws
pub mod Ahead
pub mod Sound
pub mod Kept
pub mod Allowance
