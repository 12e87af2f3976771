pub mod ListLaws
pub mod SettleLaws
pub mod TableLaws
