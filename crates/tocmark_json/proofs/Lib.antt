pub mod Lists
pub mod Marshalled
pub mod Nodes
pub mod Members
pub mod Turns
pub mod Unmarshalled
pub mod Placed
pub mod Taking
mod ElementExamples
mod MarshalExamples
mod UnmarshalExamples
pub mod Whole
pub mod Inverse
pub mod Passing
pub mod Adding
pub mod Plain
pub mod Shallow
pub mod Refusals
pub mod Searching
pub mod Forms
