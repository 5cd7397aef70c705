-- Lemmas for the sine and the cosine of a double.
pub mod Doubles
pub mod Range
