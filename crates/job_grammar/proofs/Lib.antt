pub mod Words
pub mod Block
pub mod Grammar
pub mod Shown
