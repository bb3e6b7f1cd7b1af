-- Definitions: what contracts mean.
pub mod IterationResults
pub mod Machine
pub mod Outcome
pub mod Places
pub mod Charges
pub mod Laws
pub mod Contract
-- Bookkeeping: views, layouts, walks and tables that proofs and private contracts use; and Seen and Shown, in whose words
-- Contract speaks of a machine. Live: what runs keep, by kinds. Counts: operands by segments. StandFor: slots, pool and
-- pieces against configurations. Applied: instructions on operands alone. Shown: the same of a `Task` and a `State`. Seen:
-- a `Machine` as clauses see it.
pub mod Live
pub mod Counts
pub mod StandFor
pub mod Applied
pub mod Shown
pub mod Seen
