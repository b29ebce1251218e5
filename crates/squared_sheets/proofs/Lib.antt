pub mod CircleInstances
pub mod ExchangeInstances
pub mod Instances
pub mod Marked
pub mod Pencil
pub mod Reached
pub mod Sheets
