pub mod Settling
pub mod Steady
