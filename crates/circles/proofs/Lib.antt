pub mod Along
pub mod Told
pub mod NoCircles
pub mod Shorter
