pub mod PrefixOf
pub mod FrameOf
pub mod Outside
pub mod Nesting
pub mod KeptOf
pub mod ContainersOf
