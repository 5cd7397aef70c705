pub mod Gmn
pub mod Rmn2so
pub mod Rswfo
