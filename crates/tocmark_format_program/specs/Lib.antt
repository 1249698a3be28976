pub mod Formats
pub mod Outcomes
