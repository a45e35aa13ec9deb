pub mod Shares
pub mod Victims
