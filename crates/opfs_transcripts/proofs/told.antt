pub mod Apart
pub mod CallKinds
pub mod Fixing
pub mod Goes
pub mod LinesOf
pub mod PlainTexts
pub mod Replies
pub mod Turning
