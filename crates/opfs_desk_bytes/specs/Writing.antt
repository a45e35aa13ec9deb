pub mod Words
pub mod Leaving
pub mod Putting
pub mod Steps
pub mod Plans
