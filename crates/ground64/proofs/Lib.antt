-- Written by tests/written/wide.py from ground, in f64.
mod One
