pub mod Redefining
