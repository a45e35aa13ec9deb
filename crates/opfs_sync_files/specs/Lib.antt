pub mod Doubts
pub mod Entries
pub mod Files
pub mod Resting
pub mod Still
