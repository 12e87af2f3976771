pub mod MapLoad
