pub mod Run
pub mod LineEnds
pub mod Law
