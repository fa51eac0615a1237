-- Segments on the media: what they are as bytes, and what a walk over one tells.
pub mod Gates
pub mod Headers
pub mod Batches
pub mod Segments
pub mod Walks
pub mod Slots
pub mod Areas
pub mod Writes
