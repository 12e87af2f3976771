pub mod OneLaws
pub mod GoneLaws
pub mod NoteLaws
pub mod ApplyLaws
pub mod OrderLaws
