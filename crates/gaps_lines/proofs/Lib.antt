pub mod Pieces
mod Parts
pub mod Run
pub mod OnTheSheet
mod Slips
