-- Definitions: what contracts mean.
pub mod Judged
pub mod RuleNames
pub mod WhyAnswers
pub mod ExplainedReport
pub mod TestedRules
pub mod FormedReport
pub mod ShownCode
pub mod CodeWhy
-- Bookkeeping: what only proofs and private contracts use.
pub mod Explained
pub mod CodeFound
pub mod FindingView
pub mod Examples
