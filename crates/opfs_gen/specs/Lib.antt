pub mod Drawing
pub mod Making
pub mod Own
pub mod Rounds
pub mod Summing
pub mod Telling
