pub mod Leaves
pub mod Codes
pub mod Paragraphs
pub mod Containers
pub mod Blocks
