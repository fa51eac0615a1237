pub mod PcmLemmas
mod Rows
