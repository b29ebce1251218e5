pub mod Job
pub mod Pieces
pub mod Room
