pub mod InParagraph
pub mod Agrees
pub mod Alike
pub mod Apart
pub mod Digest
pub mod Given
