pub mod Fraction
pub mod Outline
pub mod Plane
