-- What a visit of records is: what is read, what is printed of it, and how it ends.
pub mod Prints
pub mod Refusals
pub mod Visits
