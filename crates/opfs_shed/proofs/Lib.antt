pub mod Values
pub mod Usages
pub mod Firsts
