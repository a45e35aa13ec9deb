pub mod Endings
pub mod Ends
pub mod Headline
pub mod Hearing
