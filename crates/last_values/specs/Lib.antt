pub mod Lane
pub mod Lanes
pub mod Values
