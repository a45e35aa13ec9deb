pub mod Runs
pub mod Stage
