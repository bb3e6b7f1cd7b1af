use Rattle.std.proofs.Common.{◌≡◌, ◌++◌, drop, map}
use Rattle.ocl_text.specs.View.{rule_of}
use Rattle.ocl_core.specs.CoreView.{checked_rule_of}
use Rattle.ocl_explain.specs.RuleNames.{rule_names, names_of_rules}
use Rattle.ocl_explain.proofs.given_names.names_of_rules.Given as goal

-- those so far, and those of the rules that are left
abbrev pub invariant-rules : goal.invariant-rules
invariant-rules l =
    map rule_names l.names.items ++ names_of_rules (map rule_of (drop l.index l.written)) (map checked_rule_of (drop l.index l.rules))
    ≡ names_of_rules (map rule_of l.written) (map checked_rule_of l.rules)
