-- Theorems of the definitions.
pub mod FromTable
pub mod Stored
pub mod Bounded
pub mod Examples
-- Lemmas of the pivot count.
mod Chain
