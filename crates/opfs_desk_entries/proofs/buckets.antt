pub mod Estimates
pub mod Modes
pub mod Granted
pub mod Stored
