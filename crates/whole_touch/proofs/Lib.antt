mod Placed
pub mod Touching
pub mod Turns
pub mod Opposite
pub mod Corners
pub mod Rounded
