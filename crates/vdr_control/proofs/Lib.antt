pub mod IdLemmas
pub mod ExportLemmas
pub mod LineLemmas
pub mod NumberLemmas
pub mod PlayLemmas
pub mod WordLemmas
pub mod Rows
