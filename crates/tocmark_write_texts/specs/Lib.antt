pub mod Characters
pub mod Escape
pub mod Bare
pub mod Unescape
pub mod Leaves
pub mod Destination
pub mod Texts
