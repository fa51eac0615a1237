-- What a capture did.
pub mod Gives
pub mod Items
pub mod Captures
pub mod Lanes
pub mod Sums
