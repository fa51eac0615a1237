-- What is made of a capture.
pub mod AccountTexts
pub mod Progress
pub mod Relayed
pub mod Imports
pub mod Counts
pub mod Laws
pub mod SpelledFiles
pub mod SpelledBlocks
