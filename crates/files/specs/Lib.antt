pub mod Files
pub mod ReadInto
pub mod WriteOut
pub mod OpenInto
