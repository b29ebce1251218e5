pub mod Pieces
pub mod Part
