pub mod After
pub mod Building
pub mod Contents
pub mod Written
