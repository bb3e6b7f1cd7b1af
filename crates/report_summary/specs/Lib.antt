-- Definitions: what contracts mean.
pub mod Kinds
pub mod Cells
pub mod Tallies
pub mod Deliveries
