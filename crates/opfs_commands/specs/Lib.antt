pub mod Commands
pub mod Kinds
pub mod Numbers
pub mod Ran
pub mod Sizes
pub mod Telling
pub mod DumpLaws
