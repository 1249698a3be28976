mod Places
pub mod Steps
pub mod Zeros
