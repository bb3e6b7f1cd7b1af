-- Definitions: what contracts mean.
pub mod Meant
-- Bookkeeping: what proofs and contracts of single walks use.
pub mod Walks
