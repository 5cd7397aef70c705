-- Lemmas for the cosine and the sine by doubling.
pub mod Sums
pub mod Doubling
pub mod Signed
pub mod Level
pub mod Terms
pub mod Onward
pub mod Halves
pub mod Squares
pub mod Steady
pub mod Alternate
pub mod Tiny
pub mod Opening
pub mod Follows
