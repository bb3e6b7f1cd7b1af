-- Definitions: what contracts mean.
pub mod FaultNumber
pub mod Symbols
pub mod Resolved
pub mod Known
pub mod CodeTree
pub mod Patterns
pub mod InstrKinds
pub mod KindRules
pub mod Faults
pub mod CodeDepths
pub mod UnitRules
pub mod Laws
-- Bookkeeping: what proofs, private contracts and the walk's own public calls use.
pub mod Walk
