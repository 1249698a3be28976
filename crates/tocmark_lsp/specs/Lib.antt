pub mod Formatting
