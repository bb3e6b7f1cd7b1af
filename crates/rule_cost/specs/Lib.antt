-- Definitions: what contracts mean.
pub mod Bounds
pub mod Limits
pub mod CostFaults
pub mod Admission
-- Bookkeeping: views, layouts, walks and tables that only proofs and private contracts use.
pub mod CostWalk
