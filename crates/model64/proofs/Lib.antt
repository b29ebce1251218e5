-- Written by tests/written/wide.py from model, in f64.
pub mod Domain
pub mod Support
pub mod Second
pub mod Simplex
pub mod DistanceCall
pub mod Searches
pub mod Sheet
