pub mod Finishing
pub mod Olds
pub mod Printing
pub mod Stream
pub mod Walking
