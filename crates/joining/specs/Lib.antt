pub mod Sums
pub mod Kmn
pub mod Qstar
pub mod Cbk
pub mod Inside
