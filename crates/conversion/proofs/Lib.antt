pub mod ConversionLaws
pub mod ThereAndBack
