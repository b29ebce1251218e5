-- Written by tests/written/wide.py from list_calls, in f64.
pub mod Filled
mod Told
