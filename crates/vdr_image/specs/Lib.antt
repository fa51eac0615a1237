-- Image datagrams (this project's profile): their headers, and how one follows another.
pub mod Headers
pub mod Images
pub mod Tracks
pub mod Views
