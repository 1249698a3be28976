pub mod Role
pub mod Run
pub mod Emphasis
pub mod Tick
pub mod Link
pub mod Math
pub mod Definitions
pub mod Footnotes
