pub mod File
pub mod Trailer
