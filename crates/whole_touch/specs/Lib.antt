pub mod Touch
pub mod Seen
