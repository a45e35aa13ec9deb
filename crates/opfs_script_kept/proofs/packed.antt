pub mod Cutting
pub mod Heads
