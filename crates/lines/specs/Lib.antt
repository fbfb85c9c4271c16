pub mod Text
pub mod Writing
pub mod TextLaws
pub mod Listing
pub mod WritingLaws
