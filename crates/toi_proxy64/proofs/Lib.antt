-- Written by tests/written/wide.py from toi_proxy, in f64.
pub mod Held
pub mod PointLaws
