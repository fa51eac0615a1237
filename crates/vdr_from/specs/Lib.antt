-- What is read out of a stored file of evidence.
pub mod Words
pub mod Stops
pub mod Held
pub mod Tellings
pub mod Writings
pub mod Readings
pub mod Laws
