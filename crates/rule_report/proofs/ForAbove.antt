-- What the crates above cite: how many instances there are, and the report cut before the line of a pair.
pub use Rattle.rule_report.proofs.Counts.{few_instances}
pub use Rattle.rule_report.proofs.Told.{until_first, until_next}
