pub mod Orders
pub mod Keeping
pub mod Lines
pub mod Records
pub mod Latest
pub mod Unwatched
