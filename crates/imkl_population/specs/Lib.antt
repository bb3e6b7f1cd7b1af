-- Definitions: what contracts mean.
pub mod Written
pub mod Population
pub mod Values
pub mod Building
pub mod Numbers
pub mod Finishing
pub mod Consistency
pub mod FinishedPopulation
pub mod Required
pub mod Sizes
-- Bookkeeping: views, layouts, walks and tables that only proofs and private contracts use.
pub mod Seen
pub mod Draft
pub mod Adding
pub mod IdIndex
pub mod Given
pub mod Owners
pub mod Answered
pub mod Ends
pub mod Store
pub mod Layout
pub mod Order
pub mod Instances
