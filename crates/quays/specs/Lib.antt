pub mod Quays
pub mod Needed
