pub mod Bench
pub mod Program
