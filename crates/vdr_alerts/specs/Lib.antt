-- Bridge alerts, and how lines of supervision are told.
pub mod Rows
pub mod Lines
pub mod Alerts
pub mod Boards
pub mod Views
