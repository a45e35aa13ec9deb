pub mod Cuts
pub mod Running
pub mod Steps
