pub mod Moves
pub mod Join
pub mod Resized
