pub mod Indexed
pub mod Inked
pub mod Pages
pub mod PageLines
pub mod Texts
pub mod Rows
