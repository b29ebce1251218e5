pub mod Always
