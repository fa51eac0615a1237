pub mod Joining
pub mod Items
pub mod Lines
