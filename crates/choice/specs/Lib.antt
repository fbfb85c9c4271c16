pub mod Rule
pub mod Colouring
pub mod Rows
pub mod Record
pub mod Placement
pub mod Agree
