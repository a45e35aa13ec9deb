pub mod Plans
pub mod Rows
pub mod Planned
pub mod Finding
