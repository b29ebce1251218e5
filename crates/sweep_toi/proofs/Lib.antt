mod Call
mod Laws
pub mod Repeats
mod Rounds
mod Steps
