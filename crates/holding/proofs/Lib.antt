mod Resized
mod Parts
mod Window
mod Held
pub mod Together
pub mod Laws
