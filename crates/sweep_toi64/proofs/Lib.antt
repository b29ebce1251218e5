-- Written by tests/written/wide.py from sweep_toi, in f64.
mod Call
mod Laws
pub mod Repeats
mod Rounds
mod Steps
