pub mod Form
pub mod Window
pub mod Cut
pub mod Seen
