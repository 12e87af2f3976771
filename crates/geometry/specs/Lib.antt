pub mod Double
pub mod Point
pub mod Polyline
pub mod Calls
