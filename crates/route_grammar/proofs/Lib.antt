pub mod Kept
pub mod Cut
pub mod Suffice
pub mod Told
pub mod Shown
