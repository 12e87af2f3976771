pub mod Format
pub mod Number
pub mod Double
pub mod Items
pub mod Answers
