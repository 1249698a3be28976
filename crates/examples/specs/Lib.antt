pub mod Links
pub mod Levels
pub mod Chapters
pub mod Headings
