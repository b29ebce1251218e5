mod Holding
mod Runs
pub mod Alone
pub mod PackRun
mod Slips
