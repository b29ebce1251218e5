mod Laws
pub mod Patterns
