pub mod Looks
pub mod Promise
