pub mod Finish
pub mod Grown
