-- Definitions: what contracts mean.
pub mod GivenNames
-- Bookkeeping: what only proofs and private contracts use.
pub mod ReadingWalk
