-- Proofs.
pub mod Streaming
pub mod Joining
pub mod Turning
pub mod Beginning
pub mod Passing
