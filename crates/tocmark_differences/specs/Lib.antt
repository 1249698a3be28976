pub mod Erased
pub mod First
pub mod Said
pub mod Spots
