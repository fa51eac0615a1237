-- What is said over links, and what it is in the history of a latch.
pub mod Answers
pub mod Exchanges
pub mod Links
pub mod Desks
