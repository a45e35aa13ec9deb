pub mod History
pub mod Seen
pub mod Turns
