pub mod Placing
pub mod Edits
pub mod Apart
