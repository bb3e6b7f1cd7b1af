-- Definitions: what contracts mean.
pub mod Places
pub mod Lines
pub mod Showing
