pub mod PageBytes
pub mod Named
pub mod Steps
pub mod Parts
pub mod Rest
pub mod Left
pub mod Brought
