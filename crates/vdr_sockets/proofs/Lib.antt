pub mod Hearing
pub mod Handing
