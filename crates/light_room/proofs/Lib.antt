pub mod ListLaws
pub mod RoomLaws
pub mod TestLaws
pub mod PlanLaws
