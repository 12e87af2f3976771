pub mod Kinds
pub mod Layout
