-- Definitions: what contracts mean.
pub mod Script
