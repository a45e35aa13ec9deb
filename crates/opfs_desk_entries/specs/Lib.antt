pub mod Answers
pub mod Releases
pub mod KeptBack
pub mod Buckets
