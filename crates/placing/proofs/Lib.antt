pub mod WalkLaws
pub mod CheckLaws
pub mod PlaceLaws
