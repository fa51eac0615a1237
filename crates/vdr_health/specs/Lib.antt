-- How a recording fares (this project's profile).
pub mod Since
pub mod Tallies
pub mod Health
pub mod Runs
