-- Supervision of equipment: heartbeats and alarms.
pub mod Signs
pub mod SignViews
pub mod Supervision
pub mod Texts
pub mod Kept
pub mod TableViews
pub mod Watched
