pub mod Sets
pub mod Steps
pub mod Words
