mod Pieces
mod Talks
