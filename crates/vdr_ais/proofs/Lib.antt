mod Keys
mod BitLemmas
mod Names
mod Reported
mod Begun
mod Shown
mod Texts
pub mod Entries
pub mod Looking
pub mod Formatters
