-- The segments of a medium, and what is known of them.
pub mod Sequence
pub mod Order
pub mod Knowns
pub mod Entries
pub mod Costs
pub mod Lookup
pub mod Indexed
pub mod Directories
pub mod Holds
pub mod Telling
pub mod Closed
pub mod Growing
pub mod Leaving
pub mod Bringing
pub mod Opening
pub mod Fronts
