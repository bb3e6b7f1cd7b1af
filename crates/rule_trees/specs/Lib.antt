-- Definitions: what contracts mean.
pub mod InstrTrees
pub mod CoreOf
pub mod Laws
-- Bookkeeping: views, layouts, walks and tables that only proofs and private contracts use.
pub mod TreeWalk
