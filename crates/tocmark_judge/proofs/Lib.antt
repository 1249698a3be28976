pub mod Alike
pub mod Folding
pub mod Handing
pub mod Lettering
pub mod Marking
pub mod Shapes
