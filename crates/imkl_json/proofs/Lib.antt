pub mod Trees
pub mod ForAbove
