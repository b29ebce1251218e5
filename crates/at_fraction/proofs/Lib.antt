pub mod Sweeps
mod Call
