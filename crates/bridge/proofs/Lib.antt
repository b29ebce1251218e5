pub mod Ground
pub mod Domain
pub mod Simplex
pub mod Distance
pub mod Separation
pub mod SweepToi
pub mod Corners
pub mod Sheet
