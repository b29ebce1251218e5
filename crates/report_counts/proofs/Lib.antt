pub mod Held
pub mod Tally
pub mod Sums
pub mod Places
pub mod Merged
