pub mod RecordLaws
pub mod TableLaws
