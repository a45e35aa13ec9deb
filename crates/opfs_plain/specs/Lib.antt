pub mod Changing
pub mod Faults
pub mod Keeping
