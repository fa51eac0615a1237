-- Readings of the sentences of IEC 61162-1 whose fields are known.
pub mod Values
pub mod Spellings
pub mod Forms
pub mod Columns
pub mod Rows
pub mod Navigation
pub mod Machinery
pub mod Alerts
pub mod Traffic
pub mod Table
pub mod Readings
pub mod Meanings
pub mod Texts
pub mod Legality
pub mod Views
