pub mod Numbers
pub mod FirstValues
pub mod KeptRows
pub mod Entries
pub mod Used
pub mod Tagged
pub mod Seated
