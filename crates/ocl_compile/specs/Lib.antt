-- Definitions: what contracts mean.
pub mod Numbering
pub mod ResolvedUses
pub mod Translation
pub mod Compiling
pub mod CompileFaults
pub mod CompileLaws
-- Bookkeeping: views, layouts, walks and tables that only proofs and private contracts use.
pub mod Extents
pub mod Written
pub mod EmitWalk
pub mod NumbersView
pub mod NumberWalk
pub mod CompileWalk
