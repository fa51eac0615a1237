-- What recorded media tell (this project's profile).
pub mod Incidents
pub mod Tellings
pub mod Evidence
