pub mod SortLaws
pub mod ListLaws
pub mod InsertLaws
pub mod FewLaws
pub mod KindLaws
pub mod LightLaws
