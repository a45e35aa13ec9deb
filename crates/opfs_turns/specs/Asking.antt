pub mod Answers
pub mod Locals
pub mod Rows
