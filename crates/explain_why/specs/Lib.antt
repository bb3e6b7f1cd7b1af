-- Definitions: what contracts mean.
pub mod Values
pub mod Names
pub mod Texts
pub mod Differences
pub mod Reasons
pub mod Turns
pub mod Explanation
pub mod RuleView
pub mod Valued
pub mod Laws
-- Bookkeeping: what only proofs and private contracts use.
pub mod NameWalk
pub mod TextWalk
pub mod PartWalk
