pub mod Dumpable
pub mod Laws
pub mod Plain
