pub mod TokenCount
pub mod SeenTokens
pub mod Writing
