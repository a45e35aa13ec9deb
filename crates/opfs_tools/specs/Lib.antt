pub mod Checking
pub mod Listing
pub mod Reading
pub mod Sights
pub mod Units
