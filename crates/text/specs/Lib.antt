pub mod Written
pub mod Put
pub mod Read
