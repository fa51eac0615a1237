-- The table of sources.
pub mod Tables
pub mod Rows
