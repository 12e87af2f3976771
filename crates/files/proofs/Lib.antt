pub mod RoundTrip
mod Cases
pub mod ReadLaws
pub mod WriteLaws
pub mod SetReadLaws
pub mod OpenLaws
