pub mod Estimating
pub mod Granting
