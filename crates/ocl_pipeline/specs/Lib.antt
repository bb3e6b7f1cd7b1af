-- Definitions: what contracts mean.
pub mod Inputs
pub mod TextReading
pub mod ReadingLaws
pub mod CompiledRules
pub mod TypedRules
pub mod Refusals
pub mod Stops
pub mod Steps
pub mod Asked
