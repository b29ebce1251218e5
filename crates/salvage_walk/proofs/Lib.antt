pub mod Passing
pub mod Steps
mod Laws
pub mod Run
pub mod Told
mod Slips
