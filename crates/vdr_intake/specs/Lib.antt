-- What a queue of captured items keeps, and what contracts see of it.
pub mod Items
pub mod Buffers
pub mod Rule
pub mod Ends
pub mod Passes
