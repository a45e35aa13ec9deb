pub mod Calls
pub mod Writes
pub mod Placing
pub mod Pages
pub mod Places
pub mod Rows
