pub mod KindLaws
pub mod StoreLaws
pub mod FindLaws
