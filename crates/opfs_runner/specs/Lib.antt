pub mod RunLaws
pub mod AgentRows
pub mod Ending
pub mod Laws
pub mod Runs
pub mod Stepping
pub mod Run
