-- Two media as one vault: what they hold of a history, and what each call leaves of it.
pub mod Vaults
pub mod Regularity
pub mod Calls
pub mod Openings
pub mod Plays
pub mod Saves
pub mod Keeps
pub mod Stretches
pub mod Passes
pub mod Bringing
pub mod Refusals
pub mod Visits
pub mod Ours
pub mod Lives
