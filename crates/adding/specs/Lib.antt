pub mod Adding
pub mod Steps
pub mod Appending
pub mod Moving
