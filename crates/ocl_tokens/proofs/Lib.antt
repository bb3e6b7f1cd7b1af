pub mod Runs
pub mod Boundaries
pub mod Lexemes
pub mod Progress
pub mod OneReading
pub mod Total
pub mod ForAbove
