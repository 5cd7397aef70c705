-- What only contracts inside the library speak of, and proofs. No reader needs it to know what an answer is.
pub mod Carried
pub mod Four
pub mod Recurrences
