-- What two media read as, and what opening them refuses.
pub mod Settings
pub mod Media
pub mod Costs
pub mod Refusals
pub mod Answers
pub mod Parts
