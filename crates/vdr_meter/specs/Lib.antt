-- What a meter knows of what was recorded.
pub mod Metering
