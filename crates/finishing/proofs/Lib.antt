pub mod LentLaws
pub mod SettleLaws
pub mod CeilingLaws
pub mod StoredLaws
pub mod FreshLaws
pub mod CallLaws
pub mod EndLaws
