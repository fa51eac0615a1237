pub mod Silent
pub mod Tracking
pub mod Sounding
pub mod Sized
pub mod Fronts
pub mod Written
pub mod Refusing
pub mod Passes
pub mod Placing
pub mod Parting
pub mod Joining
pub mod Ending
pub mod Ends
pub mod Visited
pub mod Unlisted
pub mod Lines
pub mod Entries
pub mod Listings
pub mod TwoPasses
pub mod TimeLines
mod Rows
mod Paging
