pub mod Blends
pub mod Lengths
mod Hulls
pub mod Turns
mod Apart
mod Followed
pub mod Clear
pub mod Shrink
pub mod Forms
pub mod Rounded
pub mod Linear
