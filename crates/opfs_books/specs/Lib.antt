pub mod Sharing
pub mod Laws
pub mod Stored
pub mod Committing
pub mod Opened
pub mod Seen
pub mod Calls
pub mod Openings
