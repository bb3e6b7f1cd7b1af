use Rattle.std.proofs.Common.{◌≡◌, ℕ, List, ◌++◌, string_bytes}
use Rattle.code_as_ocl.specs.SaidRules.{AreRuleTexts}
use Rattle.code_as_ocl.proofs.marks.put_rules.Given as goal

-- the rules before this one were put
abbrev pub invariant-loop-rule : goal.invariant-loop-rule
invariant-loop-rule l =
    (t : List ℕ) × AreRuleTexts l.accepted.model l.accepted.unit l.rule t × (string_bytes l.out ≡ string_bytes l.initial.out ++ t)
