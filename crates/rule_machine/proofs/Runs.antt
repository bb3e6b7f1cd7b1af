-- Whole runs of configurations that can go on.
use Rattle.std.proofs.Common.{◌≡◌, ℕ, zero, suc, ◌+◌, ◌<◌, ◌≤◌, List, [], ◌∷◌, Option, Some, None, refl, sym, ap, ◌∙◌, subst, inl, inr, arith}
use Rattle.std.specs.Prelude.{IsSome, option_and_then}
use Rattle.imkl_model.specs.WellFormed.{IsClassModel}
use Rattle.imkl_population.specs.Consistency.{IsConsistent}
use Rattle.rule_verify.specs.declared.depths.Depths.{Depths}
use Rattle.rule_values.specs.Value.{Value}
use Rattle.rule_machine.specs.Machine.{Setting, Piece, Configuration, step, run}
use Rattle.rule_machine.specs.Outcome.{outcome}
use Rattle.rule_machine.specs.Places.{Mark, marked, marks_for, marks_after}
use Rattle.rule_machine.specs.Charges.{work_of}
use Rattle.rule_machine.specs.Live.{Live}
use Rattle.rule_machine.proofs.Charged.{charged, work_first}
use Rattle.rule_machine.proofs.Moves.{Moves, moves}

module _ (s : Setting) (deep : Depths) (model : IsClassModel s.population.model) (population : IsConsistent s.population) where
  -- a configuration with a verdict has no next step
  pub final_stops : (q : List Piece) (vars os : List Value) → IsSome (outcome (record { pending = q; variables = vars; operands = os })) → step s (record { pending = q; variables = vars; operands = os }) ≡ None
  final_stops [] vars os f = refl
  final_stops (p ∷ q) vars os f = let bad = f in cc

  no_step : (n : ℕ) (o : Option Configuration) (d : Configuration) → o ≡ None → option_and_then (run s n) o ≡ Some d → ⊥
  no_step n None d h e = cc
  no_step n (Some c) d h e = cc

  -- a configuration that a run reaches can go on, at the marks after as many steps
  abbrev pub Stays : ℕ → Configuration → List Mark → Configuration → ℕ → Type 0
  Stays n c ms d b = (l : List Mark) × (m : ℕ) × (marks_after s n c ms ≡ Some l) × (work_of s n c + m ≤ b) × Live s deep d l m

  stays_by : (n : ℕ) (c d : Configuration) (ms : List Mark) (b : ℕ) → ((c' : Configuration) (ms' : List Mark) (b' : ℕ) → Live s deep c' ms' b' → run s n c' ≡ Some d → Stays n c' ms' d b') → run s (suc n) c ≡ Some d → Moves s deep c ms b → Stays (suc n) c ms d b
  stays_by n c d ms b go e (inl f) = absurd (no_step n (step s c) d (final_stops c.pending c.variables c.operands f) e)
  stays_by n c d ms b go e (inr m) =
      let r = go m.0 (marks_for m.0 (marked s c.pending ms)) m.1 m.4 (sym (ap (option_and_then (run s n)) m.2) ∙ e) in
      (r.0, r.1, ap (option_and_then (λ x. marks_after s n x (marks_for x (marked s c.pending ms)))) m.2 ∙ r.2, omega (arith, r.3, m.3, work_first s n c m.0 m.2), r.4)

  -- where a configuration can go on, so can each that its run reaches, for what is left of the bound
  pub stays : (n : ℕ) (c d : Configuration) (ms : List Mark) (b : ℕ) → Live s deep c ms b → run s n c ≡ Some d → Stays n c ms d b
  stays zero c d ms b l e = let same : c ≡ d = cc in (ms, b, refl, omega arith, subst (λ x. Live s deep x ms b) same l)
  stays (suc n) c d ms b l e = stays_by n c d ms b (λ c' ms' b' l' e'. stays n c' d ms' b' l' e') e (moves s deep model population c ms b l)

  abbrev pub Ends : Configuration → ℕ → Type 0
  Ends c b = (n : ℕ) × (d : Configuration) × (work_of s n c ≤ b) × (run s n c ≡ Some d) × IsSome (outcome d)

  ends_by : (c : Configuration) (ms : List Mark) (b : ℕ) → ((c' : Configuration) (ms' : List Mark) (b' : ℕ) → b' < b → Live s deep c' ms' b' → Ends c' b') → Moves s deep c ms b → Ends c b
  ends_by c ms b go (inl f) = (0, c, omega arith, refl, f)
  ends_by c ms b go (inr m) =
      let r = go m.0 (marks_for m.0 (marked s c.pending ms)) m.1 (omega (arith, m.3, charged c)) m.4 in
      (suc r.0, r.1, omega (arith, r.2, m.3, work_first s r.0 c m.0 m.2), ap (option_and_then (run s r.0)) m.2 ∙ r.3, r.4)

  -- and its run comes to a verdict within the bound
  pub ends : (f : ℕ) (c : Configuration) (ms : List Mark) (b : ℕ) → b ≤ f → Live s deep c ms b → Ends c b
  ends zero c ms b le l = ends_by c ms b (λ c' ms' b' lt l'. absurd (omega arith)) (moves s deep model population c ms b l)
  ends (suc f) c ms b le l = ends_by c ms b (λ c' ms' b' lt l'. ends f c' ms' b' (omega arith) l') (moves s deep model population c ms b l)
