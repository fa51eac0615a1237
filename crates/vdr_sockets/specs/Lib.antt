-- Its objects meet the definitions of vdr_outside.
pub mod Answers
pub mod Peers
pub mod Sockets
pub mod Silences
