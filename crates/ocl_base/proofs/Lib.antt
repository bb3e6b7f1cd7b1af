pub mod Stacks
pub mod Characters
pub mod ForAbove
