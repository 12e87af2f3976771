pub mod SetLaws
pub mod LoadLaws
