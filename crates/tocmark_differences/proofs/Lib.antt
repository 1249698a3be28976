pub mod Erasing
pub mod Fronts
pub mod Stretches
