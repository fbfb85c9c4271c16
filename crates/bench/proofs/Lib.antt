pub mod BenchHolds
