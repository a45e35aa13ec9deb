pub mod Faulted
pub mod Fills
pub mod Fitting
pub mod Kept
pub mod Swapped
