pub mod Lines
pub mod Pieces
pub mod Part
pub mod Counted
pub mod Program
