mod PlacingLaws
pub mod EditLaws
