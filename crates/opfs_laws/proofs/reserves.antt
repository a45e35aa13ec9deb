pub mod AllOrNone
pub mod Alone
pub mod Effects
pub mod Kept
