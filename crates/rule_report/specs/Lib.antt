-- Definitions: what contracts mean.
pub mod Sink
pub mod Report
pub mod Cursor
pub mod Writing
pub mod Laws
-- Bookkeeping: views, layouts, walks and tables that only proofs and private contracts use.
pub mod Counting
pub mod Pieces
