-- The feed file, and what a reader of it tells.
pub mod Body
pub mod Feed
pub mod Kept
pub mod Law
pub mod Reader
pub mod Progress
pub mod Trial
pub mod Failing
pub mod Generated
