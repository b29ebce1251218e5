mod Laws
pub mod Run
pub mod AddUp
pub mod Numbers
pub mod AsSheet
pub mod Eighths
pub mod Firsts
