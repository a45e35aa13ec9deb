pub mod Calls
pub mod Clauses
pub mod Format
pub mod Reading
pub mod Seen
pub mod Standing
pub mod Walking
