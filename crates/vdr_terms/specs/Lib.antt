-- The words of a recording, from the ground up.
pub mod Stamps
pub mod Texts
pub mod Groups
pub mod Records
pub mod Datagrams
pub mod Legality
pub mod Sizes
pub mod Rates
pub mod Windows
pub mod Channels
pub mod Counting
pub mod Order
pub mod Queries
pub mod Slots
pub mod Needs
