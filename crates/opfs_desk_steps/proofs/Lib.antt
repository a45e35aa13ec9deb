pub mod Numbers
pub mod Counts
pub mod Ready
pub mod Answering
pub mod Acting
pub mod Cleared
