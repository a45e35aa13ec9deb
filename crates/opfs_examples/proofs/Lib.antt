pub mod Agentless
pub mod Answered
pub mod Made
pub mod Runs
