-- Written by tests/written/wide.py from model, in f64.
pub mod Ground
pub mod Domain
pub mod Support
pub mod Second
pub mod Simplex
pub mod Distance
pub mod Sweep
pub mod Separation
pub mod SweepToi
pub mod Corners
pub mod Work
pub mod Sheet
