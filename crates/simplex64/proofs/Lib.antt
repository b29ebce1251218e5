-- Written by tests/written/wide.py from simplex, in f64.
mod Laws
