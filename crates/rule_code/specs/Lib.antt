-- Definitions: what contracts mean.
pub mod FaultNumber
pub mod SymbolTag
pub mod FileVersion
pub mod Content
pub mod Preamble
pub mod NumberBytes
pub mod InstrRows
pub mod WrittenKinds
pub mod Spelling
pub mod WellFormed
pub mod View
pub mod Reading
pub mod KindReading
pub mod Opcodes
pub mod FieldSorts
pub mod Parts
pub mod CodeFile
pub mod Laws
-- Bookkeeping: views, layouts, walks and tables that only proofs and private contracts use.
pub mod Taken
pub mod Readers
