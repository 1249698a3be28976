pub mod LineOf
pub mod FeedsOf
pub mod RunsOf
pub mod JobOf
pub mod WriterOf
pub mod Changes
pub mod RendererOf
