pub mod History
pub mod Freed
