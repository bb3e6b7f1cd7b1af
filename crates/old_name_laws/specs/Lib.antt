-- Definitions: what contracts mean.
pub mod OldNames
pub mod UsedNames
pub mod Laws
