pub mod Tokens
pub mod Texts
pub mod Reached
pub mod Written
pub mod Names
pub mod Spans
