pub mod RoundLimit
