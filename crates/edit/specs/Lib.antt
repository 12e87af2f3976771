pub mod Edit
pub mod StopLine
pub mod Light
pub mod Links
pub mod Lent
pub mod Request
pub mod GroupLine
