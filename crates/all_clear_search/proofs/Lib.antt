pub mod First
pub mod Run
