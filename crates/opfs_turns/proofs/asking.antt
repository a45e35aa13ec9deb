pub mod Answered
pub mod Shares
pub mod Granted
pub mod RowsAfter
pub mod Entered
pub mod Stands
pub mod Plains
pub mod Rowed
