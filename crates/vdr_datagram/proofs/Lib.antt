pub mod BitLemmas
mod CutLemmas
mod LineLemmas
mod MarkLemmas
mod TokenLemmas
