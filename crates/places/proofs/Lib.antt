mod Laws
pub mod Exact
