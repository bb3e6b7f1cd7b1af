use Rattle.std.proofs.Common.{◌≡◌, map, drop}
use Rattle.ocl_core.specs.CoreView.{checked_rule_of}
use Rattle.ocl_explain.specs.WhyAnswers.{rule_named}
use Rattle.ocl_explain.proofs.verdicts.is_rule.Given as goal

-- the rule of the name is among those that are left, or nowhere
abbrev pub invariant-rules : goal.invariant-rules
invariant-rules l = rule_named (map checked_rule_of l.rules) l.name ≡ rule_named (map checked_rule_of (drop l.rule-index l.rules)) l.name
