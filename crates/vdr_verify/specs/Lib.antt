-- Evidence files, and files that are none.
pub mod Reading
pub mod Legal
pub mod Stops
pub mod Standing
pub mod Heads
pub mod Accounts
pub mod Lists
pub mod Closings
pub mod Texts
pub mod Verifies
pub mod Evidences
pub mod Visiting
pub mod Stored
pub mod Laws
