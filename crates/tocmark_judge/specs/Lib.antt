pub mod Alike
pub mod Letters
pub mod LinkDefinitions
pub mod Marks
pub mod Same
pub mod Shape
pub mod Summaries
