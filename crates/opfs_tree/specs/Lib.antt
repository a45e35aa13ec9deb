pub mod Rows
pub mod Sums
pub mod Units
pub mod Ready
