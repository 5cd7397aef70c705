pub mod Limits
pub mod BesselSums
pub mod Common
pub mod Rmn1
pub mod Rmn2l
