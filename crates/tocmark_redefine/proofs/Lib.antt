pub mod Followings
pub mod LabelPlaces
pub mod Patching
pub mod Replacing
