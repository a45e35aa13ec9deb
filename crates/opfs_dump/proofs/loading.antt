pub mod Adding
pub mod InTurn
pub mod ListsRead
pub mod Lying
pub mod Modes
pub mod Orders
pub mod StandsFor
