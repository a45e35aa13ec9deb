pub mod Calm
pub mod Cleared
pub mod Deciding
pub mod Lines
pub mod Room
pub mod RunsWithout
pub mod SameCalls
