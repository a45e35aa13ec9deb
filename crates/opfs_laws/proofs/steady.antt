pub mod GoingOn
pub mod Leaving
pub mod Others
