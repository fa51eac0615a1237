-- Evidence files.
pub mod Files
pub mod Writing
pub mod Laws
