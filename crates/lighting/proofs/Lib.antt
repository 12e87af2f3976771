pub mod RuleLaws
pub mod GroupLaws
pub mod HousingLaws
pub mod PlanLaws
