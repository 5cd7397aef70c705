pub mod Log10
pub mod Inside
pub mod Functions
