pub mod Repeats
pub mod Rounds
