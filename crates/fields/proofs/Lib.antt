pub mod Places
pub mod Words
pub mod Points
pub mod Options
pub mod BulbLaws
