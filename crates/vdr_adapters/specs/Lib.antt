-- Which calls on files are made.
pub mod Files
pub mod Making
pub mod Makers
pub mod Opened
pub mod Media
