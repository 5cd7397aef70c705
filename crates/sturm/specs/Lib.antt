pub mod Entries
pub mod Bounds
pub mod Pivots
pub mod FromTable
pub mod Examples
pub mod Inside
