-- What the operator's orders are answered over a link (this project's profile).
pub mod Texts
pub mod Exports
pub mod Orders
pub mod Plays
pub mod Answers
