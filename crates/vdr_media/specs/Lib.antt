-- The layout of the media, and what formatting promises of them.
pub mod Layout
pub mod Medium
pub mod Formatted
pub mod Answers
pub mod Formatting
pub mod Writing
pub mod Calls
