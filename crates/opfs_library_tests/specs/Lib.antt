pub mod Pipe
pub mod Kv
