pub mod RowLaws
pub mod OpenedLaws
