-- What a review is, and what the walk over a feed keeps.
pub mod Printed
pub mod Review
pub mod Said
pub mod Refusals
pub mod Walks
