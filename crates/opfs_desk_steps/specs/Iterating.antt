pub mod Below
pub mod GoingOn
pub mod Known
pub mod Reached
