-- What contracts see of objects in memory.
pub mod Sinks
pub mod Sources
pub mod Contents
pub mod Steps
pub mod Laws
pub mod Disks
pub mod Counts
pub mod Traces
pub mod Media
pub mod Images
pub mod Law
pub mod Ports
pub mod Links
