pub mod More
pub mod Saving
