pub mod Arctangent
pub mod Inside
pub mod Functions
pub mod Examples
