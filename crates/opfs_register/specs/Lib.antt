pub mod Slots
pub mod LastUses
pub mod Told
pub mod Posting
pub mod Seating
pub mod Registers
