pub mod ByPoses
