-- The table of values that records give.
pub mod Decimals
pub mod Names
pub mod Values
pub mod Told
pub mod Reported
pub mod Texts
pub mod Parts
pub mod Tables
pub mod Fixes
pub mod Views
pub mod Seeking
pub mod Carriers
pub mod Held
pub mod Laws
pub mod Numbers
pub mod NumberViews
