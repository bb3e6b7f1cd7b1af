-- Definitions: what contracts mean.
pub mod Json
