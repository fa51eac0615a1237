-- The runs of a recorder, as its records tell them.
pub mod Runs
pub mod Views
pub mod Laws
