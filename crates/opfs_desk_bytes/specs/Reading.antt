pub mod Words
pub mod Files
pub mod Reading
pub mod Sources
pub mod Handles
