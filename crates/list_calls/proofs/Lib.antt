pub mod Filled
mod Told
