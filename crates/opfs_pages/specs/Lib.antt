pub mod Copies
pub mod Stages
pub mod Writing
pub mod RowCalls
pub mod HistoryLaws
