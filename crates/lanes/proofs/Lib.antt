-- Theorems of the definitions.
pub mod Laws
