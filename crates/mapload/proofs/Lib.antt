pub mod MapLoadLaws
