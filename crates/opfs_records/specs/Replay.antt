pub mod Applying
pub mod Built
pub mod Kept
pub mod Replaying
pub mod Sums
