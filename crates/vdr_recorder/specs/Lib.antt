-- What a recorder makes of the items that it takes, and what its media keep of it.
pub mod Making
pub mod Recordings
pub mod Refusals
pub mod Looks
pub mod Reads
pub mod Playing
pub mod Resuming
pub mod Calls
pub mod Watched
pub mod Headline
pub mod Chains
