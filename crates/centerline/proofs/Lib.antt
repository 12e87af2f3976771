pub mod Order
pub mod Arrays
pub mod Measures
pub mod Places
pub mod Made
