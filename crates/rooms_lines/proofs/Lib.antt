mod Pieces
pub mod Folds
mod Parts
pub mod Run
