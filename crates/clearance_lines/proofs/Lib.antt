mod Pieces
pub mod Folds
mod Parts
pub mod Run
pub mod Counted
pub mod Program
