pub mod Fronts
pub mod EscapeLemmas
mod Rows
pub mod VerdictLemmas
pub mod WordLemmas
pub mod RecordLemmas
pub mod TrackLemmas
