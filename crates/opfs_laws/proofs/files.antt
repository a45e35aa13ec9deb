pub mod Following
pub mod Sparing
pub mod Held
