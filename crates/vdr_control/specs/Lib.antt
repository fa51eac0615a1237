-- The orders of a recorder, and the words that spell them (this project's profile).
pub mod Orders
pub mod Plays
pub mod Words
pub mod Exports
pub mod Lines
