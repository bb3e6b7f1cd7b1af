-- Definitions: what contracts mean.
pub mod Verdicts
