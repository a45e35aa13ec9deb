pub mod Kinds
pub mod Calling
