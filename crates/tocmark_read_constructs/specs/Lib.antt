pub mod Blanks
pub mod Tables
pub mod Metadata
pub mod Tasks
pub mod Quotes
pub mod Headings
pub mod Footnotes
pub mod DefinitionLists
