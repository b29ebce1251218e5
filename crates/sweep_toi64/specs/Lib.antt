-- Written by tests/written/wide.py from sweep_toi, in f64.
pub mod Repeats
pub mod Rounds
