pub mod Grating
