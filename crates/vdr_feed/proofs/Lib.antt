pub mod Grammar
pub mod Spelled
pub mod Generated
pub mod Unique
pub mod Progress
pub mod Left
pub mod Legal
