pub mod Loop
pub mod Opened
