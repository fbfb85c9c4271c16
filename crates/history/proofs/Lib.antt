pub mod Counting
pub mod HistoryLaws
pub mod Ledger
