pub mod Cuts
pub mod Defaults
pub mod Ordered
pub mod Waits
