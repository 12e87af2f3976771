pub mod Before
pub mod Law
