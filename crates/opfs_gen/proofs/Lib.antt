pub mod Drawn
pub mod Keys
pub mod Limits
pub mod Looping
pub mod Summed
pub mod Walked
