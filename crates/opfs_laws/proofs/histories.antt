pub mod Adding
pub mod Doubting
pub mod Opening
pub mod Reading
