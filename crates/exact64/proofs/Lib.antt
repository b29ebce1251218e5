pub mod Rounds
pub mod Exact
pub mod Instances
