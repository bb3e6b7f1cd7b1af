use Rattle.std.proofs.Common.{◌≡◌, ◌*◌, ◌≤◌, length}
use Rattle.imkl_population.specs.declared.limits.TheConstants.{MAX_OBJECTS}
use Rattle.rule_report.specs.Report.{all_undecided, reports_below}
use Rattle.rule_report.specs.Cursor.{pairs_of_rules}
use Rattle.rule_report.proofs.longest.longest_length.Given as goal

abbrev pub invariant-loop-rule : goal.invariant-loop-rule
invariant-loop-rule l = record {
  so : l.length ≡ length (reports_below l.accepted.unit l.population.content all_undecided l.rule);
  short : l.length ≤ 5001 * MAX_OBJECTS * l.rule;
  pairs : l.pairs ≡ length (pairs_of_rules l.accepted.unit l.population.content l.rule);
  few : l.pairs ≤ MAX_OBJECTS * l.rule;
}
