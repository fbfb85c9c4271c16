pub mod FileLaws
pub mod KindLaws
pub mod TrailerLaws
