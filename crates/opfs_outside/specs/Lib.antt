pub mod Bytes
pub mod Faults
pub mod Moments
pub mod Turns
pub mod Windows
