pub mod Pairs
pub mod Corners
pub mod Board
