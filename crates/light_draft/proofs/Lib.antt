pub mod DraftLaws
pub mod StepLaws
