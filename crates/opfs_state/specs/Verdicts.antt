pub mod Callers
pub mod Judged
