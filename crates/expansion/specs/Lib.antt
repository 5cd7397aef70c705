pub mod Terms
pub mod Products
pub mod Sums
pub mod Sdmn
pub mod Sckb
pub mod Inside
