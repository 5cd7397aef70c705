pub mod Bisection
pub mod Families
pub mod Row
pub mod Sound
pub mod Inside
