pub mod Dispatch
pub mod Apart
pub mod Keeping
pub mod Moments
pub mod Resting
pub mod Seen
pub mod Passing
pub mod Ending
