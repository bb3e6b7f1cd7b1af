pub mod Described
pub mod Stopping
pub mod TextReadings
pub mod OneReading
pub mod TextCompiled
pub mod ForAbove
