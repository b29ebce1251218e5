pub mod Blend
pub mod Piece
