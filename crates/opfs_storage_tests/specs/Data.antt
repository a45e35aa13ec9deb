pub mod OneRow
