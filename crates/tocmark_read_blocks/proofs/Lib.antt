pub mod Steps
pub mod PlainLines
pub mod PlainSteps
pub mod PlainStarts
pub mod PlainPages
pub mod PlainTexts
pub mod PlainFronts
pub mod CoreStarts
mod FencedLines
mod EmptyLines
