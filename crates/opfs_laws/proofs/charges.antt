pub mod Adds
pub mod Judged
