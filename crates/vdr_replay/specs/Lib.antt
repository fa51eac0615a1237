-- What `replay` records of a feed.
pub mod Summary
pub mod Feeding
pub mod Headline
pub mod Answers
pub mod Captured
pub mod Given
pub mod Taking
pub mod Refusals
pub mod Ran
pub mod Replays
