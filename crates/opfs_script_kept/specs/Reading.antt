pub mod Agents
pub mod Kept
pub mod Members
pub mod Steps
pub mod Sums
pub mod Values
