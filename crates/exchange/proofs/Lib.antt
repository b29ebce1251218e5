pub mod Exchange
pub mod Places
pub mod Shift
pub mod Told
