pub mod SetFile
