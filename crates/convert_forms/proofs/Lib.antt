mod Laws
mod Bytes
pub mod Twice
pub mod SameLine
pub mod Exchange
pub mod Kept
pub mod Run
mod Slips
