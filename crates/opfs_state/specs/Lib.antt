pub mod Verdicts
pub mod Applied
pub mod Freeing
pub mod Preparing
pub mod Reading
pub mod Seeing
pub mod Laws
