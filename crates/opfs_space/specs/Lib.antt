pub mod Spaces
pub mod Holders
pub mod Files
pub mod Plans
pub mod Room
