-- Files out of what was recorded: sound, and images.
pub mod Numbers
pub mod Tracks
pub mod Sounds
pub mod Waves
pub mod Pictures
pub mod Listings
pub mod Asked
pub mod Answers
pub mod Refusals
pub mod Tails
pub mod Heard
pub mod Collected
pub mod Kept
pub mod Paged
pub mod Laws
pub mod Wishes
