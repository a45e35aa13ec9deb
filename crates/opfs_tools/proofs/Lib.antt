pub mod Digesting
pub mod Filled
pub mod Keeping
pub mod Listed
pub mod Merging
pub mod Ordered
pub mod Walking
