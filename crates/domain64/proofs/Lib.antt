-- Written by tests/written/wide.py from domain, in f64.
mod Laws
