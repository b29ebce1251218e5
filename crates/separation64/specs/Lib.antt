-- Written by tests/written/wide.py from separation, in f64.
pub mod ByPoses
