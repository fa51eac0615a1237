-- PCM frames (this project's profile): what they are, their bytes, and how one follows another.
pub mod Frames
pub mod Datagrams
pub mod Tracks
pub mod Views
