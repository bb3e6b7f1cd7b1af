-- Jobs by code whose symbols are present names have the same charges and lines, whatever old names there are.
use Rattle.std.proofs.Common.{◌≡◌, ◌∙◌, ℕ, zero, suc, List, [], ◌∷◌, ◌++◌, All, length, map, take, sum, flat_map, Option, Some, None, refl, ap, option_map, is_some, unwrap_or, if◌then◌else◌, arith}
use Rattle.std.specs.List.{concat}
use Rattle.imkl_population.specs.declared.object.Object.{Object}
use Rattle.imkl_population.specs.Population.{Population}
use Rattle.rule_machine.specs.Machine.{Setting, setting_of, Configuration, step, start}
use Rattle.rule_machine.specs.Charges.{charge_of}
use Rattle.rule_machine.specs.Outcome.{outcome}
use Rattle.rule_machine.specs.Laws.{tree_of_rule, verdict_at}
use Rattle.rule_report.specs.Report.{context_objects, verdicts_below, counts_of, name_of, object_line, rule_line_of, total_line, after_last, parts_below, report_parts}
use Rattle.rule_report.specs.Cursor.{pairs_of_rules, all_pairs}
use Rattle.rule_desk.specs.Job.{charges_within, pair_charges, charges_of, costs_of, paid_for, lines_at}
use Rattle.old_name_laws.proofs.Symbols.{Case, in_one, in_other, RuleAgrees}
use Rattle.old_name_laws.proofs.Costs.{rule_bound_alike}
use Rattle.old_name_laws.proofs.Steps.{setting, step_alike}
use Rattle.old_name_laws.proofs.Runs.{Covered, CoveredNext, next_stays, starts_covered}
use Rattle.old_name_laws.proofs.Reports.{AreRules, contexts_alike, all_verdicts_alike, told_alike}

module _ (x : Case) (objects : List Object) (n c d : ℕ) where
  abbrev s : Setting
  s = setting x n c (in_one x objects)

  abbrev t : Setting
  t = setting x n d (in_other x objects)

  abbrev IsCovered : Configuration → Type 0
  IsCovered q = Covered x objects n c d q

  mapped_alike : {X : Type 0} (f g : Configuration → X) (o : Option Configuration) → ((q : Configuration) → IsCovered q → f q ≡ g q) → CoveredNext x objects n c d o
      → option_map f o ≡ option_map g o
  mapped_alike f g None same h = refl
  mapped_alike f g (Some q) same h = ap Some (same q h)

  charges_alike : (most : ℕ) (q : Configuration) → IsCovered q → charges_within t most q ≡ charges_within s most q
  charges_alike zero q h = refl
  charges_alike (suc most) q h =
      ap (λ (o : Option (List ℕ)). if is_some (outcome q) then [] else charge_of q ∷ unwrap_or o [])
      (ap (λ (o : Option Configuration). option_map (charges_within t most) o) (step_alike x objects n c d q h)
      ∙ mapped_alike (charges_within t most) (charges_within s most) (step s q) (charges_alike most) (next_stays x objects n c d q h))

-- ---- of a unit

module _ (x : Case) (h : All (RuleAgrees x) x.unit.rules) (objects : List Object) where
  abbrev one : Population
  one = in_one x objects

  abbrev two : Population
  two = in_other x objects

  pair_charges_alike : (k : ℕ × ℕ) → pair_charges x.unit two k ≡ pair_charges x.unit one k
  pair_charges_alike k =
      λ j. charges_alike x objects k.0 (setting_of x.unit one k.0).context (setting_of x.unit two k.0).context (rule_bound_alike x h objects k.0 j) (start (tree_of_rule x.unit k.0) k.1) (starts_covered x h objects k.0 k.1) j

  -- ---- the report part by part

  parts_below_alike : (n : ℕ) → AreRules x h objects n → parts_below x.unit two (verdict_at x.unit two) n ≡ parts_below x.unit one (verdict_at x.unit one) n
  parts_below_alike zero le = refl
  parts_below_alike (suc r) le =
      let objects_alike : context_objects x.unit two r ≡ context_objects x.unit one r = contexts_alike x h objects r (omega arith) in
      let before : parts_below x.unit two (verdict_at x.unit two) r ≡ parts_below x.unit one (verdict_at x.unit one) r = parts_below_alike r (omega arith) in
      λ j. after_last (before j ++ map (object_line x.unit one (all_verdicts_alike x h objects j) r) (objects_alike j))
      (rule_line_of (name_of x.unit r) (length (objects_alike j)) (counts_of (map (all_verdicts_alike x h objects j r) (objects_alike j))))

  parts_alike : report_parts x.unit two (verdict_at x.unit two) ≡ report_parts x.unit one (verdict_at x.unit one)
  parts_alike =
      let parts : parts_below x.unit two (verdict_at x.unit two) (length x.unit.rules) ≡ parts_below x.unit one (verdict_at x.unit one) (length x.unit.rules) = parts_below_alike (length x.unit.rules) (omega arith) in
      let told : verdicts_below x.unit two (verdict_at x.unit two) (length x.unit.rules) ≡ verdicts_below x.unit one (verdict_at x.unit one) (length x.unit.rules) = told_alike x h objects (length x.unit.rules) (omega arith) in
      λ j. after_last (parts j) (total_line (counts_of (told j)))

  -- ---- jobs

  pairs_below_alike : (n : ℕ) → AreRules x h objects n → pairs_of_rules x.unit two n ≡ pairs_of_rules x.unit one n
  pairs_below_alike zero le = refl
  pairs_below_alike (suc r) le = λ j. pairs_below_alike r (omega arith) j ++ map (λ o. (r, o)) (contexts_alike x h objects r (omega arith) j)

  pairs_alike : all_pairs x.unit two ≡ all_pairs x.unit one
  pairs_alike = pairs_below_alike (length x.unit.rules) (omega arith)

  -- the job has the same charges
  pub charges_of_alike : charges_of x.unit two ≡ charges_of x.unit one
  charges_of_alike = λ j. flat_map (λ k. pair_charges_alike k j) (pairs_alike j)

  -- its pairs have the same costs
  pub costs_alike : costs_of x.unit two ≡ costs_of x.unit one
  costs_alike = λ j. map (λ k. sum (pair_charges_alike k j)) (pairs_alike j)

  -- and its lines are the same, whatever is spent
  pub lines_alike : lines_at x.unit two ≡ lines_at x.unit one
  lines_alike = λ j s. concat (take (suc (paid_for (costs_alike j) s)) (parts_alike j))
