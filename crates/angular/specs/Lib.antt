pub mod Aswfa
pub mod MirrorLaw
pub mod Inside
