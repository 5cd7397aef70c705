-- What only contracts inside the library speak of, and proofs. No reader needs it to know what an answer is.
pub mod Fixed
pub mod FixedValues
pub mod Signed
pub mod Law
pub mod Horner
pub mod Circle
pub mod CircleValues
