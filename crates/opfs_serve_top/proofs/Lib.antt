pub mod Ends
pub mod Hosts
pub mod Moved
pub mod Others
