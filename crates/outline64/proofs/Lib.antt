-- Written by tests/written/wide.py from outline, in f64.
mod Laws
