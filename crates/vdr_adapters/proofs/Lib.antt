pub mod Placing
pub mod Zeros
