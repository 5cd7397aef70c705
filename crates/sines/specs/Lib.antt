pub mod Sine
pub mod Inside
pub mod Functions
