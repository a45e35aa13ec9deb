pub mod Entered
pub mod Found
pub mod Own
pub mod Reader
pub mod Saved
pub mod Stored
pub mod Wordings
