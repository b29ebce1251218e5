pub mod Once
pub mod EveryFunction
