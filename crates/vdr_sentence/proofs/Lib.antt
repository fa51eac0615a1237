pub mod Bodies
pub mod Readings
pub mod FieldLemmas
pub mod Writing
pub mod Rows
