pub mod Modes
pub mod Pending
