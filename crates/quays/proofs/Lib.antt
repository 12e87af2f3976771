mod Answered
pub mod Calls
pub mod Needed
