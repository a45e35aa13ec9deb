pub mod Pieces
pub mod Pipes
pub mod Rounds
pub mod Sides
pub mod Streams
