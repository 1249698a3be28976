pub mod Says
pub mod Seen
pub mod Notes
