pub mod Response
pub mod Ignored
pub mod Stream
pub mod Inside
pub mod StreamLaws
pub mod Readings
pub mod BothKinds
