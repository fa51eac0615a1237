-- A configuration: what it is, and which text gives it.
pub mod Names
pub mod Configuration
pub mod Kinds
pub mod Sizes
pub mod Forms
pub mod Grammar
pub mod Entries
