pub mod Limits
pub mod Reading
pub mod Seen
pub mod Texts
pub mod Whole
