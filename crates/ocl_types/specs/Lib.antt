-- Definitions: what contracts mean.
pub mod Faults
pub mod TypedTrees
pub mod Operators
pub mod TableView
pub mod Scope
pub mod Elaboration
pub mod AllRules
-- Bookkeeping: views, layouts, walks and tables that only proofs and private contracts use.
pub mod TypedView
pub mod ScopeView
pub mod ScopeIndex
pub mod EnvironmentView
pub mod GatheredView
pub mod CallView
pub mod Walk
pub mod FoldView
