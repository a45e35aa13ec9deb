pub mod Noting
pub mod Serving
pub mod Standing
