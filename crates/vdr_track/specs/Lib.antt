-- The track of a source, as a GPX file.
pub mod Steps
pub mod Segments
pub mod Texts
pub mod Drawn
pub mod Laws
