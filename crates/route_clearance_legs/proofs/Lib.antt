pub mod Checks
pub mod Walks
pub mod First
pub mod Swept
