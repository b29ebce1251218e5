pub mod Ground
pub mod Root
pub mod Domain
pub mod Geometry
pub mod Calls
pub mod Answers
pub mod Texts
