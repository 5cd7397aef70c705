-- What the proofs of more than one module use, and `Laws.antt` for the crates above.
pub mod Flags
pub mod Numbers
pub mod Fields
pub mod Unsigned
pub mod Laws
pub mod Exact
pub mod Units
pub mod Zeros
pub mod Bounded
