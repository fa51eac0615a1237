-- The digest of records.
pub mod Spans
pub mod Digests
pub mod Held
pub mod Laws
