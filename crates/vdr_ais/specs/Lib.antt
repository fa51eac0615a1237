-- AIS: the messages that VDM and VDO sentences carry, what they report, and the table of ships.
pub mod Bits
pub mod Reports
pub mod Lines
pub mod Messages
pub mod Targets
pub mod Pending
pub mod Places
pub mod Tables
pub mod Views
