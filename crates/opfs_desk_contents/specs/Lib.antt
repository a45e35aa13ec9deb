pub mod Words
pub mod Rows
pub mod Putting
pub mod Storing
pub mod Blocks
pub mod Unchanged
pub mod Commits
pub mod Planning
