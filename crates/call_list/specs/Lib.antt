pub mod Reply
pub mod Step
pub mod Rows
pub mod Ran
pub mod OneByOne
