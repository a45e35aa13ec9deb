pub mod Gotten
pub mod Saving
