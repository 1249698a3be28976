pub mod PlainInlines
pub mod PlainPasses
pub mod PlainNodes
pub mod PlainParts
pub mod PlainLeaf
pub mod PlainNeighbours
pub mod Sparse
mod Behind
mod Fronts
pub mod CoreRuns
mod Quiet
mod Settled
