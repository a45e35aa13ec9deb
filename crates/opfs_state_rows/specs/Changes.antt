pub mod Allowed
pub mod Asking
pub mod Changed
pub mod Growing
pub mod Quiet
