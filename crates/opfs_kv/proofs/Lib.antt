pub mod Kept
pub mod Serving
pub mod Flushing
pub mod Scanned
pub mod Rooms
pub mod Results
pub mod Asking
