pub mod Dropping
