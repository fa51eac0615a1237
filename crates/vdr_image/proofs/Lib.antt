pub mod ImageLemmas
mod Rows
