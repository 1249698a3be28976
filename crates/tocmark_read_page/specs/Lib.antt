pub mod Leaves
pub mod Pieces
pub mod Packed
pub mod Definitions
pub mod Pages
