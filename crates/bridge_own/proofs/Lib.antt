pub mod ByPoses
pub mod Points
pub mod Entry
pub mod Text
