-- Definitions: what contracts mean.
pub mod Breaks
