pub mod Acts
pub mod Copies
