-- Lemmas for the decimal logarithm.
pub mod Powers
pub mod Squaring
pub mod Tens
pub mod Bridge
pub mod Cases
