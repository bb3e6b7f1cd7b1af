pub mod ForAbove
