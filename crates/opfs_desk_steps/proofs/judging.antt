pub mod Rows
pub mod Units
pub mod Judgements
pub mod Same
pub mod Named
pub mod Endings
