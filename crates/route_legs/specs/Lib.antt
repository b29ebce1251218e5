pub mod Route
pub mod Promise
