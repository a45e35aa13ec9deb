pub mod Agents
pub mod Calls
pub mod Waiting
pub mod Entering
pub mod Asking
pub mod OtherRows
pub mod Faulting
