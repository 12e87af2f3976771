pub mod RuleLines
pub mod Group
pub mod Housing
pub mod Plan
