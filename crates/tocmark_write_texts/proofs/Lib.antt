pub mod EscapeLemmas
pub mod Bare
pub mod Runs
pub mod CharacterLemmas
pub mod SpanLemmas
pub mod ReadBack
pub mod SpanReads
pub mod TextLaws
pub mod Fronts
mod Rows
