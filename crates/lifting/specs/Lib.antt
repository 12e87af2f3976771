pub mod Lifting
pub mod Noting
pub mod Applying
