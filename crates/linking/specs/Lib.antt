pub mod Sorting
pub mod Linking
pub mod Kinds
pub mod LightLinks
