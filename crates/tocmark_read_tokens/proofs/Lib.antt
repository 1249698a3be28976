mod Folded
pub mod NoWord
pub mod Places
pub mod PlainReferences
pub mod Unmarked
