pub mod Courses
pub mod Known
pub mod Sets
pub mod Spots
pub mod Tallies
