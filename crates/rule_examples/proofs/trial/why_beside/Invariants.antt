use Rattle.std.proofs.Common.{map, drop}
use Rattle.std.specs.List.{AllByRecursion}
use Rattle.ocl_core.specs.CoreView.{checked_rule_of}
use Rattle.ocl_core.specs.Typing.{IsTypedRule}
use Rattle.rule_examples.proofs.trial.why_beside.Given as goal

-- the rules that are left have types
abbrev pub invariant-rules : goal.invariant-rules
invariant-rules l = AllByRecursion (IsTypedRule l.population.content.model) (map checked_rule_of (drop l.rule-index l.rules))
