pub mod TokenRuns
pub mod Written
