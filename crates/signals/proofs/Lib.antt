pub mod SignalLaws
pub mod CarryLaws
pub mod FoldLaws
