-- Bytes as lines of base64.
pub mod Lines
pub mod Printing
pub mod Laws
