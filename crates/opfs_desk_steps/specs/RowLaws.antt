pub mod Inside
pub mod Copied
pub mod Stored
pub mod InHand
pub mod Opening
pub mod Opens
pub mod OpenCopies
pub mod Puts
