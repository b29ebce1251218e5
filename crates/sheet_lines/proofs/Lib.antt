pub mod Pieces
mod Parts
pub mod Run
