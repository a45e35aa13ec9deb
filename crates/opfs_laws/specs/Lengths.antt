pub mod Bridge
pub mod Kept
pub mod Outlines
