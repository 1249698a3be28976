pub mod Defined
pub mod Followed
pub mod Redefined
