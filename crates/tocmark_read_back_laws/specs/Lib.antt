pub mod Contents
pub mod Trees
pub mod Documents
pub mod Nested
