-- Definitions: what contracts mean.
pub mod EvalAnswers
