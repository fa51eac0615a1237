-- Datagrams of IEC 61162-450: their tokens, and the lines of a sentence datagram.
pub mod Tokens
pub mod Lines
pub mod Verdicts
pub mod Views
pub mod Channels
pub mod Marks
