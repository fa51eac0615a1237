pub mod Members
pub mod Elements
pub mod Repeats
pub mod Whole
pub mod Table
mod Rows
pub mod Ranges
mod Windows
