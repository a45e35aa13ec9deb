pub mod Digits
pub mod Parts
pub mod Putting
pub mod Rests
