pub mod Spelling
pub mod Slot
pub mod Holding
pub mod Writes
pub mod Ids
pub mod SlotBySlot
pub mod Beside
