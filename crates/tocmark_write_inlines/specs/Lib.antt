-- Definitions.
pub mod Delimiters
pub mod Between
pub mod BesideOf
pub mod Led
pub mod Named
pub mod StretchOf
