pub mod Lists
pub mod Lines
