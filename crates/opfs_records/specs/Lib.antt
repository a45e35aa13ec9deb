pub mod Replay
pub mod Checkpoint
