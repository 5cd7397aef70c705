pub mod Coefficients
pub mod Angular
pub mod Radial
pub mod FirstKind
