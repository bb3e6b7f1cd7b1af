-- Definitions: what contracts mean.
pub mod Names
pub mod Strings
pub mod Tree
pub mod Grammar
pub mod RuleText
pub mod Laws
pub mod View
pub mod ViewLaws
-- Bookkeeping: views, layouts, walks and tables that only proofs and private contracts use.
pub mod Parse
pub mod Parses
pub mod Pending
