-- Definitions: what contracts mean.
pub mod Input
pub mod Sources
pub mod Reply
pub mod Answers
pub mod ThreeInputs
pub mod CodeRules
pub mod Judge
pub mod MeantReport
pub mod JudgeText
pub mod Bound
pub mod Desk
pub mod Verify
pub mod Compile
pub mod TextLaws
-- Bookkeeping: Ending and Given, which the calls over inputs that were read cite, and what only private contracts use.
pub mod Ending
pub mod Given
pub mod CompileParts
