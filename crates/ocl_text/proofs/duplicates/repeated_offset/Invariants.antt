use Rattle.std.proofs.Common.{◌≡◌, ℕ, List, [], map, take, drop, Bor}
use Rattle.std.specs.BTreeSet.{contains}
use Rattle.std.specs.Cmp.Lexicographic.{slice_cmp}
use Rattle.std.specs.Ordering.{nat_cmp}
use Rattle.ocl_text.specs.RuleText.{has_name, AreNamedApart, RepeatsAt}
use Rattle.ocl_text.specs.View.{rule_of}
use Rattle.ocl_text.proofs.duplicates.repeated_offset.Given as goal

abbrev pub invariant-rules : goal.invariant-rules
invariant-rules l = record {
  seen : (q : Bor (List ℕ)) → contains (λ x y. slice_cmp nat_cmp x.now y.now) l.seen q ≡ has_name (map rule_of (take l.rule-index l.rules)) q.now;
  apart : AreNamedApart (map rule_of (take l.rule-index l.rules)) (map rule_of (drop l.rule-index l.rules)) → AreNamedApart [] (map rule_of l.rules);
  repeated : (place : ℕ) → RepeatsAt (map rule_of (take l.rule-index l.rules)) (map rule_of (drop l.rule-index l.rules)) place → RepeatsAt [] (map rule_of l.rules) place;
}
