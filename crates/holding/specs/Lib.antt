pub mod Grip
