pub mod Awaits
pub mod Entries
pub mod Files
pub mod Leaving
pub mod Turned
