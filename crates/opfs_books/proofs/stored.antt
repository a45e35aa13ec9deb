pub mod Covering
pub mod Failing
pub mod Making
pub mod Modes
pub mod Ruling
pub mod Stored
pub mod Telling
pub mod Tied
