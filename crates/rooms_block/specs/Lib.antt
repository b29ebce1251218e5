pub mod Rooms
pub mod Answer
