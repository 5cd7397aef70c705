-- Lemmas, then the theorems about the definitions.
pub mod Laws
pub mod Nexts
pub mod Reached
pub mod StreamLaws
pub mod Readings
pub mod Ignored
pub mod BothKinds
