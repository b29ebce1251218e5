-- Written by tests/written/wide.py from distance, in f64.
mod Laws
mod Call
