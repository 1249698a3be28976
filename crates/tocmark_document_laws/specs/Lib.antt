pub mod Blocks
pub mod DocumentLines
pub mod LaidOut
pub mod ReadBack
pub mod ProperLists
