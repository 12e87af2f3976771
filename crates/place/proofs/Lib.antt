pub mod Worked
pub mod Doubles
pub mod Answers
mod Cases
pub mod Sound
pub mod LineLaws
pub mod SectionLaws
pub mod EndLaws
pub mod SameLanes
