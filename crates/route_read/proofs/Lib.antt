pub mod Runs
pub mod Shown
pub mod Written
