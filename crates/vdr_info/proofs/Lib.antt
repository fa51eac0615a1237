pub mod InfoLemmas
