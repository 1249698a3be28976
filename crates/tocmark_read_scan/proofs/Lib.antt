mod FirstBytes
pub mod Repeats
pub mod Whole
mod Cells
pub mod PlainContent
pub mod PlainPieces
pub mod PlainPlaces
pub mod PlainSides
pub mod PlainTests
