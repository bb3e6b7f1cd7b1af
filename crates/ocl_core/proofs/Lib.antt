pub mod CoreViews
pub mod ForAbove
