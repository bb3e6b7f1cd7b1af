-- Definitions: what contracts mean.
pub mod ShownRules
pub mod SaidRules
pub mod TypedTexts
pub mod WantedKinds
-- Bookkeeping: what only proofs and private contracts use.
pub mod PrintedView
pub mod WantedLinks
