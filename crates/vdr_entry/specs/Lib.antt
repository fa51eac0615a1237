-- Records as values, as bytes on the media, and as printed text.
pub mod Fields
pub mod Buffers
pub mod Contents
pub mod Spelling
pub mod Reading
pub mod Spotting
pub mod Utc
pub mod Queries
pub mod Escape
pub mod Lines
