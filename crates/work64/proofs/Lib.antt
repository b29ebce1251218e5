-- Written by tests/written/wide.py from work, in f64.
mod Laws
