pub mod Network
pub mod NetworkLaws
pub mod Order
pub mod OrderLaws
pub mod Rows
pub mod Light
