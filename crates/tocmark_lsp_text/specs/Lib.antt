pub mod Edits
pub mod Positions
