-- What one medium alone gives, and what it lacks.
pub mod Fronts
pub mod Given
pub mod Judging
pub mod Runs
pub mod Readings
pub mod Costs
pub mod Cursors
pub mod Lacking
pub mod Saves
pub mod Visiting
pub mod Findings
pub mod Alones
pub mod Legible
pub mod Lives
