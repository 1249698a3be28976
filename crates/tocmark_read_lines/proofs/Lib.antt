pub mod Steps
pub mod Columns
pub mod LineEnds
