pub mod StreamCalls
pub mod HandleCalls
pub mod Awaiting
pub mod Entries
