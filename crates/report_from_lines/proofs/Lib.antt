pub mod Fields
pub mod Worked
pub mod FromLines
pub mod Shown
