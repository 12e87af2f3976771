pub mod Parts
pub mod ByKind
pub mod Presence
pub mod ReadLaws
pub mod UpdateLaws
pub mod SoundLaws
pub mod ReplaceLaws
