pub mod Defaults
pub mod Fills
