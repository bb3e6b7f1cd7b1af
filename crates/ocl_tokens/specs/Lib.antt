-- Definitions: what contracts mean.
pub mod Faults
pub mod Written
pub mod Terminals
pub mod Lexical
pub mod Laws
-- Bookkeeping: views, layouts, walks and tables that only proofs and private contracts use.
pub mod FirstLexeme
