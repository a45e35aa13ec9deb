pub mod Records
pub mod Keeping
pub mod Seen
pub mod Asked
pub mod Packing
pub mod Opening
pub mod Calls
pub mod Commands
