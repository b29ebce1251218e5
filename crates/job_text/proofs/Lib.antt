pub mod BlockBuilt
pub mod Lines
pub mod Passed
pub mod Compared
pub mod Read
pub mod RoundTrip
pub mod Fitting
pub mod Shown
mod Slips
