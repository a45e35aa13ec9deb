pub mod Answered
pub mod GoOn
