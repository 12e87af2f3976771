pub mod ChangeSet
pub mod ChangeFile
pub mod Running
pub mod Order
pub mod Layout
pub mod Walk
pub mod Listed
pub mod Kinds
