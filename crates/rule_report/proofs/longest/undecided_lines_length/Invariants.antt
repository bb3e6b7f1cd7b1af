use Rattle.std.proofs.Common.{◌≡◌, ◌*◌, ◌≤◌, length, take, Some}
use Rattle.std.specs.List.{flat_map}
use Rattle.imkl_population.specs.Population.{object_at}
use Rattle.rule_values.specs.declared.verdict.Verdict.TheVariants.{Undecided}
use Rattle.rule_report.specs.Report.{line_of}
use Rattle.rule_report.proofs.longest.undecided_lines_length.Given as goal

abbrev pub invariant-loop-object : goal.invariant-loop-object
invariant-loop-object l = record {
  so : l.length ≡ length (flat_map (λ o. line_of (Some Undecided) l.name (object_at l.population.content o).id) (take l.object-index l.objects));
  short : l.length ≤ 5000 * l.object-index;
}
