-- Numbers as bytes.
pub mod Numbers
pub mod Digits
pub mod Checksum
