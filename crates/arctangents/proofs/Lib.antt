-- Lemmas for the arctangent.
pub mod Range
pub mod Sides
pub mod Adding
pub mod Moved
pub mod Nearly
pub mod Upto
pub mod Distinct
pub mod Rotated
pub mod Turns
pub mod Sure
