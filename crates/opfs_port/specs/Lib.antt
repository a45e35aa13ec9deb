pub mod Counts
pub mod Lines
pub mod Said
pub mod Sessions
pub mod Shown
