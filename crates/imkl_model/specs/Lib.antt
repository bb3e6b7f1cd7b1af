-- Definitions: what contracts mean.
pub mod Words
pub mod Faults
pub mod Features
pub mod Chains
pub mod ClassModel
pub mod Renames
pub mod WellFormed
pub mod Shape
pub mod Members
pub mod WrittenFeatures
pub mod Checks
pub mod Scopes
pub mod Numbering
pub mod Description
pub mod Laws
-- Bookkeeping: views, layouts, walks and tables that only proofs and private contracts use. Spelled: what is known of
-- `Written`. Drafts: what is known before the last checks. Tables: rows of marks. Held: what tables keep for look-ups.
-- Ranks: names in order. Groups: features of one name.
pub mod Spelled
pub mod Drafts
pub mod Tables
pub mod Held
pub mod Ranks
pub mod Groups
