-- What a captured packet is.
pub mod Outcomes
pub mod Numbers
pub mod Links
pub mod Packets
pub mod Laws
pub mod Spelled
