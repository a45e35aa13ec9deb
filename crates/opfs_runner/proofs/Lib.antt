pub mod Counting
pub mod Doing
pub mod Endings
pub mod Joining
pub mod Pending
pub mod Way
