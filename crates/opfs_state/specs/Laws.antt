pub mod Judged
pub mod Owned
pub mod Readied
pub mod Room
