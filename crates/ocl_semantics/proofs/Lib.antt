pub mod MeaningThere
pub mod Nodes
pub mod Bound
pub mod TypedResolved
pub mod ForAbove
