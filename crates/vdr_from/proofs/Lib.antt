pub mod HeldLemmas
pub mod TellLemmas
pub mod WriteLemmas
pub mod OwedLemmas
pub mod WordCounts
