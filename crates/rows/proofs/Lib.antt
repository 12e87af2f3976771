pub mod Bools
pub mod SameLists
pub mod Tables
pub mod RowLaws
pub mod Indexed
pub mod Plan
pub mod Searches
