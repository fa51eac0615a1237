-- What the two media of one recorder say of the same places.
pub mod Standings
pub mod Seconds
pub mod Differences
pub mod Conditions
pub mod Tallies
pub mod Sides
pub mod Surveys
pub mod Comparisons
pub mod Openings
pub mod Media
pub mod Laws
