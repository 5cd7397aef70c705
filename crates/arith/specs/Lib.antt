pub mod Double
pub mod Root
pub mod NearestRoot
pub mod Truncation
pub mod Powers
pub mod Choice
pub mod Examples
pub mod Inside
