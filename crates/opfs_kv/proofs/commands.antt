pub mod Doubted
pub mod Lists
pub mod Ones
pub mod Following
pub mod Stopping
