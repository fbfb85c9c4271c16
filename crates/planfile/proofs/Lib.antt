pub mod ChecksLaws
pub mod ReaderLaws
