pub mod Measures
pub mod Outcomes
