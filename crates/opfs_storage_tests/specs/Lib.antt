pub mod Tree
pub mod Data
