-- Definitions: what contracts mean.
pub mod Kinds
pub mod Laws
