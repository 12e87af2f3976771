pub mod PointLaws
pub mod CheckLaws
