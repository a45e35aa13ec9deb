pub mod Doubts
pub mod Opened
pub mod Unread
