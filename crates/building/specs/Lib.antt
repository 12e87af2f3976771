pub mod Build
