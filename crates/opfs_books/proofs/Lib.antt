pub mod Alone
pub mod Calls
pub mod Evictions
pub mod Following
pub mod Starts
