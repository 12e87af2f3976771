pub mod Steps
pub mod RecordLaws
pub mod RuleLaws
