-- Captures, and what a reader of them tells.
pub mod Account
pub mod Blocks
pub mod Capture
pub mod Law
pub mod Numbers
pub mod Options
pub mod Packets
pub mod Reader
pub mod Seen
pub mod Stamps
pub mod Steps
pub mod Taken
pub mod Within
