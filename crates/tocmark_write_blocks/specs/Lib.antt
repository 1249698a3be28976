-- Definitions.
pub mod Headings
pub mod AheadOf
pub mod Leads
pub mod TokenRuns
pub mod BlockEnds
pub mod Html
pub mod HtmlAhead
pub mod HtmlNames
pub mod Kinds
pub mod Raw
