pub mod Answered
pub mod Told
pub mod Plays
pub mod Before
pub mod Exported
pub mod Healths
