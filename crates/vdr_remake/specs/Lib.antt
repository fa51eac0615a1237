-- What a medium holds that is made anew from another, and what a stop leaves of it at each moment.
pub mod Copies
pub mod Remade
pub mod Moments
pub mod Causes
pub mod Answers
