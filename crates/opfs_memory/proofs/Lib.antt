pub mod Crashes
pub mod DriveCalls
pub mod HostCalls
pub mod Keeping
pub mod Lengthened
pub mod Shelving
