pub mod Record
pub mod Text
pub mod Lines
pub mod Examples
