mod Roots
mod Doubling
mod Turns
mod Rounded
mod Patterns
mod Cases
pub mod Law
