-- The rule of a name is the one that a walk over the rules finds first.
use Rattle.std.proofs.Common.{◌≡◌, ℕ, ◌+◌, ◌<◌, ◌≤◌, Bool, List, length, drop, map, get_or, Some, None, refl, add-one, drop-cons, bytes_eq, if◌then◌else◌}
use Rattle.std.proofs.lemmas.List.{at_drop_all}
use Rattle.ocl_core.specs.Core.{CheckedRule}
use Rattle.ocl_explain.specs.WhyAnswers.{rule_named}

module _ {X : Type 0} (rule : X → CheckedRule) where
  -- the next rule has the name, or the rule of the name is looked for behind it
  pub next_rule : (xs : List X) (i : ℕ) (x : X) (name : List ℕ) (b : Bool) → i < length xs → x ≡ get_or xs i x → bytes_eq (rule x).name name ≡ b
      → rule_named (map rule (drop i xs)) name ≡ (if b then Some (rule x) else rule_named (map rule (drop (i + 1) xs)) name)
  next_rule xs i x name b lt is test = rw (add-one, drop-cons xs i x lt, ← is, test) refl

  -- where no rule is left none has the name
  pub no_rule_left : (xs : List X) (i : ℕ) (name : List ℕ) → length xs ≤ i → rule_named (map rule (drop i xs)) name ≡ None
  no_rule_left xs i name le = at_drop_all (λ (rest : List X). rule_named (map rule rest) name) xs i le
