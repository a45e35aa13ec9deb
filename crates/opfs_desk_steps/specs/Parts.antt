pub mod Seen
pub mod Held
pub mod Asked
pub mod Answered
pub mod Acted
