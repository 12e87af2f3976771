pub mod Readable
pub mod Place
pub mod Steps
pub mod Values
pub mod EndNames
