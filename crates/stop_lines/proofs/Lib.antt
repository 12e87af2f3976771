pub mod RoomLaws
pub mod PlanLaws
pub mod DraftLaws
pub mod StoringLaws
pub mod CarryLaws
