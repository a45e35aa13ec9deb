pub mod Areas
pub mod Charges
pub mod Counted
pub mod Moves
pub mod Refused
