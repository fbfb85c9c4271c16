pub mod RoundTrips
pub mod WriterLaws
