-- The table of incident saves: what it holds, and what each write leaves of it.
pub mod Saves
pub mod Fields
pub mod Tables
pub mod Calls
