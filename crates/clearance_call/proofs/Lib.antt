mod Refusals
mod Order
mod Laws
pub mod InDomain
pub mod Whole
