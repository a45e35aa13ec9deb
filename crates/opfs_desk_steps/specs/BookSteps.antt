pub mod Refusing
pub mod Taking
pub mod Clearing
pub mod Entering
pub mod Committing
