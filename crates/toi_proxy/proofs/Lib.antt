pub mod Held
pub mod PointLaws
