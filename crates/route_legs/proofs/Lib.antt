pub mod Starts
pub mod Walks
pub mod Checks
pub mod First
pub mod Answers
pub mod Never
