pub mod Begun
pub mod Counted
pub mod Opened
