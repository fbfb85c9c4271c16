pub mod Exactly
pub mod Pairs
pub mod Tests
