pub mod Alone
pub mod Held
pub mod Kept
pub mod Talked
