-- TAG blocks of IEC 61162-450.
pub mod Parts
pub mod Values
pub mod Items
pub mod Blocks
pub mod Fronts
pub mod Views
