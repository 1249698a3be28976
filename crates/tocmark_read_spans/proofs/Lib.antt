mod OneLabel
pub mod Room
pub mod Search
pub mod Marks
pub mod NotedRuns
pub mod Runless
mod Stacks
pub mod Partners
