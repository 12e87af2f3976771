pub mod LiftedLaws
pub mod StoreLaws
