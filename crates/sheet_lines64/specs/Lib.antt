-- Written by tests/written/wide.py from sheet_lines, in f64.
pub mod Pieces
pub mod Part
