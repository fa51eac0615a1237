-- What a command is, and how it ends.
pub mod Endings
pub mod Opened
pub mod Outside
pub mod Promises
pub mod Refusals
pub mod StatusLine
pub mod Statuses
