pub mod Factors
pub mod Lookup
