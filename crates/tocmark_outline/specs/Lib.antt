pub mod Outline
pub mod Words
pub mod Defining
