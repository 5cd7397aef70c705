pub mod Secant
pub mod Msta1
pub mod Msta2
pub mod Sphj
pub mod Sphy
