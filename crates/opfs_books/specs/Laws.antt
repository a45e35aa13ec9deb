pub mod Books
pub mod Laws
pub mod Commits
pub mod Fronts
