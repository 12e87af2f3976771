pub mod Cases
pub mod Tests
