-- What media are, by what opening them reads.
pub mod Helds
pub mod Lines
pub mod Used
pub mod Costs
pub mod Infos
