pub mod Called
pub mod Making
pub mod Spending
pub mod Tables
