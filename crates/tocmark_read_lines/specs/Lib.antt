pub mod Lines
pub mod Cells
pub mod Marks
pub mod Html
pub mod Containers
pub mod DefinitionLists
pub mod Footnotes
