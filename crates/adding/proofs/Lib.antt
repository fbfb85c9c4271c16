pub mod AddingLaws
pub mod Entering
pub mod Telling
pub mod Searching
