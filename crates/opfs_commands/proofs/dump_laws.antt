pub mod Back
pub mod Values
pub mod Rows
pub mod Texts
pub mod Built
pub mod Images
