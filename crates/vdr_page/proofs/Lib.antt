-- Proofs.
mod Holding
mod Joining
mod Opening
mod Quiet
mod QuietRows
mod Surveying
mod ShownTexts
mod Missing
mod Parting
mod GapCounts
pub mod Gathered
pub mod Plain
