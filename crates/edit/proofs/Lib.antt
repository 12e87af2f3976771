pub mod Crossings
mod Cases
pub mod GroupLine
