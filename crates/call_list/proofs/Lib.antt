pub mod Places
pub mod Replies
pub mod Steps
pub mod Walk
pub mod Ends
pub mod Decode
pub mod Numbers
pub mod OneByOne
