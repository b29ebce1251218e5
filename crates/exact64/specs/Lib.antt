pub mod Call
pub mod Rounds
