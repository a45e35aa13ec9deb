pub mod Keyless
pub mod Readied
pub mod Shown
pub mod Standby
