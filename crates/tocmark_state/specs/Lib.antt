pub mod Ranges
pub mod Taken
pub mod Walk
pub mod StringWriters
pub mod Writes
pub mod WorkView
pub mod StateView
