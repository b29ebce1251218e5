pub mod Batches
pub mod Told
