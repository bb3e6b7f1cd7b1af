-- Definitions: what contracts mean.
pub mod Meaning
pub mod Resolved
-- Bookkeeping: how links are evaluated, one after another.
pub mod Evaluated
