pub mod Text
pub mod Dumping
pub mod Loading
