pub mod Checks
pub mod Reader
