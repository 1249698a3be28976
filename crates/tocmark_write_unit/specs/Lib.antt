-- Definitions.
pub mod CensusOf
pub mod FindingsOf
pub mod NeighboursOf
pub mod ToldOf
pub mod Turn
