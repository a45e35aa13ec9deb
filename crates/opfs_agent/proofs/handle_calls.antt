pub mod Facts
pub mod Shared
pub mod Nearby
