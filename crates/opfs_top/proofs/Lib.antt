pub mod Hosts
pub mod Made
pub mod Parting
pub mod Running
pub mod Telling
