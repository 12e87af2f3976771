pub mod MapBytes
