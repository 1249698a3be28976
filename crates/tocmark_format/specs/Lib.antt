pub mod Formatted
pub mod Named
pub mod Plain
