pub mod Roots
pub mod Clearing
pub mod Fronts
pub mod PoolVictims
pub mod FileLocks
