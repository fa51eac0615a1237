pub mod Ordered
pub mod Writing
pub mod Orders
pub mod Keeping
