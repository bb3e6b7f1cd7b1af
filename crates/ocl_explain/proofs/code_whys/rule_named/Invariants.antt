use Rattle.std.proofs.Common.{◌≡◌, ◌-◌, length}
use Rattle.ocl_explain.specs.CodeWhy.{index_of_rule_from, rule_number}
use Rattle.ocl_explain.proofs.code_whys.rule_named.Given as goal

-- the rule of the name is among those that are left, or nowhere
abbrev pub invariant-loop-rule : goal.invariant-loop-rule
invariant-loop-rule l =
    rule_number l.accepted.unit l.name ≡ index_of_rule_from l.accepted.unit l.name (length l.accepted.unit.rules - l.rule) l.rule
