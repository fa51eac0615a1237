pub mod GroupNames
pub mod Lines
pub mod OpenedCompleteness
pub mod OpenedLemmas
