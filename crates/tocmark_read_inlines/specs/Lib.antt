pub mod Scan
pub mod Write
pub mod Inlines
