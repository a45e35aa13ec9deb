pub mod Judging
pub mod Making
pub mod Owning
pub mod Readying
