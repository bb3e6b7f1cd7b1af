-- The report that rules mean: each verdict is that of the rule's expression, and nothing of it depends on code.
use Rattle.std.specs.Prelude.{ℕ, List, ◌++◌, Option, Some, length, map}
use Rattle.std.specs.List.{flat_map}
use Rattle.imkl_population.specs.Population.{Population, object_at, instances}
use Rattle.ocl_core.specs.Core.{CheckedRule}
use Rattle.rule_values.specs.declared.verdict.Verdict.{Verdict}
use Rattle.ocl_semantics.specs.Meaning.{meant_verdict}
use Rattle.rule_report.specs.declared.summary.Summary.{Summary}
use Rattle.rule_report.specs.Report.{line_of, rule_line_of, total_line, counts_of}

-- the verdicts of a rule, object by object of its context class
abbrev pub meant_verdicts : Population → CheckedRule → List (Option Verdict)
meant_verdicts p r = map (λ o. Some (meant_verdict p r o)) (instances p r.context)

-- the line of an object
abbrev pub meant_line : Population → CheckedRule → ℕ → List ℕ
meant_line p r o = line_of (Some (meant_verdict p r o)) r.name (object_at p o).id

-- what is reported of a rule: the lines of its objects, then its own
abbrev pub meant_report_of_rule : Population → CheckedRule → List ℕ
meant_report_of_rule p r =
    flat_map (meant_line p r) (instances p r.context)
    ++ rule_line_of r.name (length (instances p r.context)) (counts_of (meant_verdicts p r))

abbrev pub meant_summary : Population → List CheckedRule → Summary
meant_summary p rs = counts_of (flat_map (meant_verdicts p) rs)

-- what is reported of each rule in the text's order, then the total
abbrev pub meant_report : Population → List CheckedRule → List ℕ
meant_report p rs = flat_map (meant_report_of_rule p) rs ++ total_line (meant_summary p rs)
