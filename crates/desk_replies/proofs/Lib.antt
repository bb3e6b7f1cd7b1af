pub mod Calls
pub mod Writes
pub mod Scripts
