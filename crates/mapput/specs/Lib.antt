pub mod MapPut
