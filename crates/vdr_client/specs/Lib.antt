-- What an operator's words ask of a recorder, and how its reply is told.
pub mod Orders
