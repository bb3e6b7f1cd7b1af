-- Definitions: what contracts mean.
pub mod Buffers
-- Bookkeeping: what only proofs and private contracts use.
pub mod Puts
