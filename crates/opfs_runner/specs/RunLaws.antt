pub mod Agreeing
pub mod Kinds
pub mod Leaving
