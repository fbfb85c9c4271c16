pub mod Answer
pub mod Planner
pub mod Steps
