-- Lemmas for sine and cosine below 1.
pub mod Low
pub mod Square
