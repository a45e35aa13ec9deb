pub mod Keeping
pub mod Changing
pub mod Steps
pub mod Words
