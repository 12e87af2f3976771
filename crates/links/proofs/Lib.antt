pub mod EditLaws
pub mod CarryLaws
