-- What a run's ports gave, and what is made of the items that it takes.
pub mod Accounts
pub mod Calls
pub mod Charges
pub mod Given
pub mod Making
pub mod Meters
pub mod Sizes
pub mod Starts
