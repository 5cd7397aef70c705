-- What the calls on a reading, and the readings, come to.
pub mod Calls
pub mod Readings
