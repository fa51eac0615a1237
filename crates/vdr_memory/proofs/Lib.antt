pub mod Overwriting
pub mod Traces
pub mod Changes
pub mod Images
pub mod Chosen
pub mod Replaying
