pub mod Entry
pub mod Moment
pub mod Route
