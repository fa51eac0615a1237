-- The recording as text.
pub mod Verdicts
pub mod Streams
pub mod Texts
