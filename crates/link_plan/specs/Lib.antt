pub mod LinkPlan
