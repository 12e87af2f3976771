pub mod Within
pub mod Sums
pub mod Numbers
pub mod Points
pub mod Records
pub mod Whole
