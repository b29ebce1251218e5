pub mod Shared
pub mod Regions
pub mod SquaredPaper
