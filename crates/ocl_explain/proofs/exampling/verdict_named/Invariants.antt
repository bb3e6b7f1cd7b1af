use Rattle.std.proofs.Common.{◌≡◌, map, drop}
use Rattle.std.specs.List.{AllByRecursion}
use Rattle.ocl_core.specs.CoreView.{checked_rule_of}
use Rattle.ocl_core.specs.Typing.{IsTypedRule}
use Rattle.ocl_explain.specs.WhyAnswers.{rule_named}
use Rattle.ocl_explain.proofs.exampling.verdict_named.Given as goal

-- the rules that are left, and the one of the name is among them, or nowhere
abbrev pub invariant-rules : goal.invariant-rules
invariant-rules l =
    AllByRecursion (IsTypedRule l.population.content.model) (map checked_rule_of (drop l.rule-index l.rules))
    × (rule_named (map checked_rule_of l.rules) l.name ≡ rule_named (map checked_rule_of (drop l.rule-index l.rules)) l.name)
