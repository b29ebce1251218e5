mod Parts
mod Numbers
mod Bodies
mod Centres
pub mod Clear
