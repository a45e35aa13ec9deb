pub mod Answers
pub mod Doing
pub mod Headline
pub mod Inputs
pub mod Statuses
