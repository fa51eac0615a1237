pub mod Lists
pub mod Exchanged
mod Going
pub mod Conversing
