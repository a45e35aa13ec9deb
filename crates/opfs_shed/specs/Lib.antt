pub mod Buckets
pub mod Tied
