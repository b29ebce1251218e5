pub mod First
mod Blocks
pub mod Run
