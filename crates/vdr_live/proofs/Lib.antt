pub mod Completeness
pub mod Endings
pub mod Headlines
pub mod LinkLemmas
pub mod Lives
pub mod MakeLemmas
pub mod PortLemmas
pub mod Words
mod Numbered
pub mod Lined
