pub mod PlanLaws
pub mod PutLaws
