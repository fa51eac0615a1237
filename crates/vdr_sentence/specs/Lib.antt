-- Sentences of IEC 61162-1.
pub mod Characters
pub mod Addresses
pub mod Fields
pub mod Sentences
pub mod Refusals
