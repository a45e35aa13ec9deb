pub mod Goings
pub mod Reading
pub mod Turns
