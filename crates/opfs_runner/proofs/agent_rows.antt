pub mod Forgotten
pub mod Grown
pub mod Handed
pub mod Resting
pub mod Tabled
pub mod Using
