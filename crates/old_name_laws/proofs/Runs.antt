-- Runs of code whose symbols are present names have the same verdicts, whatever old names there are.
use Rattle.std.proofs.Common.{◌≡◌, ◌∙◌, ℕ, zero, suc, List, All, Option, Some, None, refl, ap, option_and_then}
use Rattle.imkl_population.specs.declared.object.Object.{Object}
use Rattle.imkl_population.specs.Population.{Population}
use Rattle.rule_values.specs.declared.verdict.Verdict.{Verdict}
use Rattle.rule_machine.specs.Machine.{Setting, setting_of, Configuration, step, start}
use Rattle.rule_machine.specs.Outcome.{outcome}
use Rattle.rule_machine.specs.Laws.{tree_of_rule, first_there, verdict_within, verdict_at}
use Rattle.old_name_laws.proofs.Symbols.{Case, in_one, in_other, IsAlike, RuleAgrees}
use Rattle.old_name_laws.proofs.Checks.{code_agrees}
use Rattle.old_name_laws.proofs.Costs.{rule_bound_alike}
use Rattle.old_name_laws.proofs.Steps.{InPieces, InNext, stays_in, starts_in, setting, step_alike}

module _ (x : Case) (objects : List Object) (n c d : ℕ) where
  abbrev s : Setting
  s = setting x n c (in_one x objects)

  abbrev t : Setting
  t = setting x n d (in_other x objects)

  abbrev pub Covered : Configuration → Type 0
  Covered q = InPieces (IsAlike x) q.pending

  abbrev pub CoveredNext : Option Configuration → Type 0
  CoveredNext o = InNext (IsAlike x) o

  -- a step leaves code of present names pending
  pub next_stays : (q : Configuration) → Covered q → CoveredNext (step s q)
  next_stays q h = stays_in (IsAlike x) s q h

  -- ---- verdicts

  then_alike : {X : Type 0} (f g : Configuration → Option X) (o : Option Configuration) → ((q : Configuration) → Covered q → f q ≡ g q) → CoveredNext o
      → option_and_then f o ≡ option_and_then g o
  then_alike f g None same h = refl
  then_alike f g (Some q) same h = same q h

  verdicts_alike : (most : ℕ) (q : Configuration) → Covered q → verdict_within t most q ≡ verdict_within s most q
  verdicts_alike zero q h = refl
  verdicts_alike (suc most) q h =
      ap (λ (o : Option Verdict). first_there (outcome q) o)
      (ap (λ (o : Option Configuration). option_and_then (verdict_within t most) o) (step_alike x objects n c d q h)
      ∙ then_alike (verdict_within t most) (verdict_within s most) (step s q) (verdicts_alike most) (next_stays q h))

-- ---- of a unit

module _ (x : Case) (h : All (RuleAgrees x) x.unit.rules) (objects : List Object) where
  abbrev one : Population
  one = in_one x objects

  abbrev two : Population
  two = in_other x objects

  -- a run begins with code of present names
  pub starts_covered : (r o : ℕ) → InPieces (IsAlike x) (start (tree_of_rule x.unit r) o).pending
  starts_covered r o = starts_in (IsAlike x) (tree_of_rule x.unit r) o (code_agrees x h r)

  -- a rule has the same verdict for each object
  pub verdict_alike : (r o : ℕ) → verdict_at x.unit two r o ≡ verdict_at x.unit one r o
  verdict_alike r o =
      λ j. verdicts_alike x objects r (setting_of x.unit one r).context (setting_of x.unit two r).context (rule_bound_alike x h objects r j) (start (tree_of_rule x.unit r) o) (starts_covered r o) j
