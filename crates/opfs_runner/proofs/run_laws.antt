pub mod Binding
pub mod Hands
pub mod OpenRows
pub mod Quiet
pub mod Sorts
pub mod StepOps
pub mod Stepped
