pub mod Agents
pub mod Runs
pub mod Trial
