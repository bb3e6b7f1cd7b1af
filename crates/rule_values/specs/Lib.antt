-- Definitions: what contracts mean.
pub mod Value
pub mod Equality
pub mod Operations
pub mod Endings
pub mod Verdict
pub mod Laws
