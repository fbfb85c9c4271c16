-- What the entries promise together.
pub mod Demands
