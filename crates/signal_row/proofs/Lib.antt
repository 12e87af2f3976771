pub mod RowLaws
pub mod StoredLaws
