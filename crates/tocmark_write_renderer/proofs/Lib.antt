pub mod Order
pub mod Ends
pub mod Backwards
pub mod Rounds
pub mod Cuts
pub mod Reached
pub mod Notes
pub mod Marks
pub mod Carries
pub mod Laid
pub mod Gaps
pub mod Starts
pub mod Escapes
mod NoGaps
