pub mod Words
pub mod Handles
pub mod Plain
pub mod Calls
