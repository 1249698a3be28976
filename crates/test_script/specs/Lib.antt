pub mod Findings
pub mod Readers
