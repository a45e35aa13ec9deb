pub mod Located
pub mod Iterating
pub mod Taking
