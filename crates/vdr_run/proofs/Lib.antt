pub mod BitLemmas
pub mod Gaps
pub mod Meters
pub mod Sizes
pub mod Foretelling
pub mod Taking
pub mod Closing
pub mod Given
