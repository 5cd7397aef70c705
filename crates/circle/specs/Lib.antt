pub mod Series
pub mod Within
pub mod Inside
