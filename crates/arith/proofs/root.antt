-- Lemmas for the square root: whole numbers first (Squares, Newton), then bit patterns (Unpack, Pack), then `sqrt` itself.
pub mod Squares
pub mod Newton
pub mod Cases
pub mod Unpack
pub mod Pack
pub mod Radicand
pub mod Nearest
pub mod Unique
