pub mod Maps
pub mod Records
pub mod Heads
pub mod Indexes
pub mod Scans
