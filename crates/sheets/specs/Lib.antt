pub mod Sheet
pub mod Inside
