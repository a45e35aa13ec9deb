pub mod Refused
pub mod Next
pub mod Silent
pub mod Telling
