pub mod Disks
pub mod Fronts
pub mod Keys
pub mod Runs
pub mod Sized
pub mod Within
