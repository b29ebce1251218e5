pub mod Rows
pub mod Largest
pub mod Report
