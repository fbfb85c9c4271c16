pub mod Arrival
pub mod Chunks
pub mod Collisions
pub mod LawfulLaws
