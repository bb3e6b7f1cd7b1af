use Rattle.rule_report.proofs.laws.no_report_is_longer.Goals as goal
use Rattle.rule_report.proofs.Lengths.{no_report_is_longer}

-- src/laws.rt
pub returns : goal.returns
returns c = no_report_is_longer
