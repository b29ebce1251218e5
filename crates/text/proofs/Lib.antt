pub mod Pasted
pub mod Written
mod Digits
pub mod ReadBack
pub mod Lengths
pub mod Ends
mod Slips
