-- What the program answers where it has ports to record from.
pub mod Ports
pub mod Links
pub mod Headline
pub mod Recordings
pub mod Runs
pub mod Lines
pub mod Making
pub mod Makes
pub mod MakeParts
