mod Endings
pub mod Corners
