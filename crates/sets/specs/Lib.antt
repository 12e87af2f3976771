pub mod Tables
pub mod Fold
