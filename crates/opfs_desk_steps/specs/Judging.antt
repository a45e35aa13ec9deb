pub mod Sizes
pub mod Asking
