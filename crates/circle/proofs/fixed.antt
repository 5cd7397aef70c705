-- Whole numbers as doubles, doubles in order, and zero among them.
pub mod Exactly
pub mod Order
pub mod Zero
