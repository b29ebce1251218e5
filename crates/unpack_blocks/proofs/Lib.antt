mod Blocks
pub mod UnpackRun
mod Slips
