mod Names
pub mod Placing
pub mod Lines
