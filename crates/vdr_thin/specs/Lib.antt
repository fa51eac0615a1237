-- Runs of readings: what is kept of them, and the table of series.
pub mod Runs
pub mod Tables
pub mod Laws
pub mod Handed
