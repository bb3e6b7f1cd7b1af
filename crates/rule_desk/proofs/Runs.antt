-- What a pair costs is what its run is charged up to its verdict.
use Rattle.std.proofs.Common.{◌≡◌, ℕ, zero, suc, ◌+◌, ◌-◌, ◌<◌, ◌≤◌, List, [], ◌∷◌, ◌++◌, sum, Option, Some, None, refl, sym, ap, ◌∙◌, arith, if◌then◌else◌}
use Rattle.std.specs.Prelude.{is_some, IsSome, unwrap_or, option_and_then}
use Rattle.std.specs.Option.{option_map}
use Rattle.imkl_population.specs.Population.{Population}
use Rattle.rule_code.specs.Content.{Content}
use Rattle.rule_values.specs.Value.{Value}
use Rattle.rule_values.specs.declared.verdict.Verdict.{Verdict}
use Rattle.rule_machine.specs.Machine.{Setting, setting_of, Piece, Configuration, step, run, start}
use Rattle.rule_machine.specs.Charges.{charge_of, work_of}
use Rattle.rule_machine.specs.Outcome.{outcome, final_verdict}
use Rattle.rule_machine.specs.Laws.{IsAcceptedRun, tree_of_rule, rule_bound}
use Rattle.rule_machine.proofs.ForAbove.{charged, work_first, work_more, steps_within, ends_within}
use Rattle.rule_desk.specs.Job.{charges_within, pair_cost, greatest_total}
use Rattle.rule_desk.proofs.Totals.{sum_first, total_none, total_first}

-- ---- runs

-- a configuration with a verdict has no next step
final_stops : (s : Setting) (ps : List Piece) (vars os : List Value) (v : Verdict) → final_verdict ps os ≡ Some v → step s (record { pending = ps; variables = vars; operands = os }) ≡ None
final_stops s [] vars os v e = refl
final_stops s (p ∷ ps) vars os v e = let bad = e in cc

stops : (s : Setting) (c : Configuration) (v : Verdict) → outcome c ≡ Some v → step s c ≡ None
stops s c v e = final_stops s c.pending c.variables c.operands v e

no_more : (s : Setting) (n : ℕ) (c d : Configuration) (v : Verdict) → outcome c ≡ Some v → run s (suc n) c ≡ Some d → ⊥
no_more s n c d v e r = let bad : None ≡ Some d = ap (option_and_then (run s n)) (sym (stops s c v e)) ∙ r in cc

-- the next configuration of a run that goes on
pub next_of : (s : Setting) (n : ℕ) (d : Configuration) (o : Option Configuration) → option_and_then (run s n) o ≡ Some d → (c : Configuration) × (o ≡ Some c) × (run s n c ≡ Some d)
next_of s n d None e = let bad = e in cc
next_of s n d (Some c) e = (c, refl, e)

-- a verdict comes after any configuration of the same run that has none
pub fewer_steps : (s : Setting) (n m : ℕ) (c d e : Configuration) (v : Verdict) → run s n c ≡ Some d → outcome d ≡ Some v → run s m c ≡ Some e → outcome e ≡ None → m < n
fewer_steps s zero zero c d e v r f q g = let same : d ≡ e = cc in let bad : Some v ≡ None = sym f ∙ ap outcome same ∙ g in cc
fewer_steps s zero (suc m) c d e v r f q g = let same : c ≡ d = cc in absurd (no_more s m c e v (ap outcome same ∙ f) q)
fewer_steps s (suc n) zero c d e v r f q g = omega arith
fewer_steps s (suc n) (suc m) c d e v r f q g =
    let a = next_of s n d (step s c) r in
    let b = next_of s m e (step s c) q in
    let same : a.0 ≡ b.0 = let x : Some a.0 ≡ Some b.0 = sym a.1 ∙ b.1 in cc in
    let less : m < n = fewer_steps s n m a.0 d e v a.2 f (ap (run s m) same ∙ b.2) g in
    omega (arith, less)

-- a run that makes more steps is charged as much at least
pub work_grows : (s : Setting) (n k : ℕ) (c e : Configuration) → n < k → run s k c ≡ Some e → work_of s (suc n) c ≤ work_of s k c
work_grows s n zero c e l r = absurd (omega (arith, l))
work_grows s zero (suc k) c e l r =
    let next = next_of s k e (step s c) r in
    omega (arith, work_first s 0 c next.0 next.1, work_first s k c next.0 next.1)
work_grows s (suc n) (suc k) c e l r =
    let next = next_of s k e (step s c) r in
    omega (arith, work_first s (suc n) c next.0 next.1, work_first s k c next.0 next.1, work_grows s n k next.0 e (omega (arith, l)) next.2)

-- ---- the charges of a run

by_outcome : (s : Setting) (most : ℕ) (c : Configuration) (o : Option Verdict) → outcome c ≡ o
    → charges_within s (suc most) c ≡ (if is_some o then [] else charge_of c ∷ unwrap_or (option_map (charges_within s most) (step s c)) [])
by_outcome s most c o e = ap (λ x. if is_some x then [] else charge_of c ∷ unwrap_or (option_map (charges_within s most) (step s c)) []) e

-- the charges of a run that goes on
charges_next : (s : Setting) (most : ℕ) (c d : Configuration) → outcome c ≡ None → step s c ≡ Some d → charges_within s (suc most) c ≡ charge_of c ∷ charges_within s most d
charges_next s most c d none e = by_outcome s most c None none ∙ ap (λ x. charge_of c ∷ unwrap_or (option_map (charges_within s most) x) []) e

-- one that makes a step has no verdict before it
none_before : (s : Setting) (n : ℕ) (c d : Configuration) (o : Option Verdict) → outcome c ≡ o → run s (suc n) c ≡ Some d → outcome c ≡ None
none_before s n c d None e r = e
none_before s n c d (Some v) e r = absurd (no_more s n c d v e r)

-- up to the verdict they are what the run is charged
pub charges_sum : (s : Setting) (most n : ℕ) (c d : Configuration) (v : Verdict) → n ≤ most → run s n c ≡ Some d → outcome d ≡ Some v → sum (charges_within s most c) ≡ work_of s n c
charges_sum s zero n c d v l r e =
    let z : n ≡ zero = omega (arith, l) in
    ap (λ k. work_of s k c) (sym z)
charges_sum s (suc most) zero c d v l r e =
    let same : c ≡ d = cc in
    ap sum (by_outcome s most c (Some v) (ap outcome same ∙ e))
charges_sum s (suc most) (suc n) c d v l r e =
    let next = next_of s n d (step s c) r in
    let none = none_before s n c d (outcome c) refl r in
    let rest = charges_sum s most n next.0 d v (omega (arith, l)) next.2 e in
    ap sum (charges_next s most c next.0 none next.1)
    ∙ omega (arith, sum_first (charge_of c) (charges_within s most next.0), rest, work_first s n c next.0 next.1)

-- where what is left doesn't pay for the next step, just the steps before it are paid
pub paid_in_run : (s : Setting) (most n : ℕ) (c d : Configuration) (rest : List ℕ) (t : ℕ) → n < most → run s n c ≡ Some d → outcome d ≡ None
    → work_of s n c ≤ t → t < work_of s n c + charge_of d → greatest_total (charges_within s most c ++ rest) t ≡ work_of s n c
paid_in_run s zero n c d rest t l r none from below = absurd (omega (arith, l))
paid_in_run s (suc most) zero c d rest t l r none from below =
    let same : c ≡ d = cc in
    let first = by_outcome s most c None (ap outcome same ∙ none) in
    let later = unwrap_or (option_map (charges_within s most) (step s c)) [] in
    ap (λ cs. greatest_total (cs ++ rest) t) first ∙ total_none (charge_of c) (later ++ rest) t (omega (arith, below, ap charge_of same))
paid_in_run s (suc most) (suc n) c d rest t l r none from below =
    let next = next_of s n d (step s c) r in
    let first = charges_next s most c next.0 (none_before s n c d (outcome c) refl r) next.1 in
    let work = work_first s n c next.0 next.1 in
    let later = paid_in_run s most n next.0 d rest (t - charge_of c) (omega (arith, l)) next.2 none (omega (arith, from, work)) (omega (arith, below, from, work)) in
    ap (λ cs. greatest_total (cs ++ rest) t) first
    ∙ omega (arith, total_first (charge_of c) (charges_within s most next.0 ++ rest) t (omega (arith, from, work)), later, work)

-- ---- of accepted code

some_of : {A : Type 0} (o : Option A) → IsSome o → (x : A) × (o ≡ Some x)
some_of None h = let bad = h in cc
some_of (Some x) h = (x, refl)

-- a run with a verdict, within the bound
pub cost_is : (u : Content) (p : Population) (r o n : ℕ) (d : Configuration) (v : Verdict) → work_of (setting_of u p r) n (start (tree_of_rule u r) o) ≤ rule_bound u p r
    → run (setting_of u p r) n (start (tree_of_rule u r) o) ≡ Some d → outcome d ≡ Some v → pair_cost u p (r, o) ≡ work_of (setting_of u p r) n (start (tree_of_rule u r) o)
cost_is u p r o n d v l ran e =
    let few = steps_within (setting_of u p r) n (start (tree_of_rule u r) o) d ran in
    charges_sum (setting_of u p r) (rule_bound u p r) n (start (tree_of_rule u r) o) d v (omega (arith, l, few)) ran e

-- what is known of a run of accepted code that has no verdict yet: how many steps it has made, and what it is charged
pub record IsOpen (u : Content) (p : Population) (r o n : ℕ) (d : Configuration) : Type 0 where
  pub few : n < rule_bound u p r
  pub below : work_of (setting_of u p r) n (start (tree_of_rule u r) o) + charge_of d ≤ pair_cost u p (r, o)
  pub within : pair_cost u p (r, o) ≤ rule_bound u p r

pub is_open : (u : Content) (p : Population) (r o n : ℕ) (d : Configuration) → IsAcceptedRun u p r o
    → run (setting_of u p r) n (start (tree_of_rule u r) o) ≡ Some d → outcome d ≡ None → IsOpen u p r o n d
is_open u p r o n d accepted ran e =
    let s = setting_of u p r in
    let c = start (tree_of_rule u r) o in
    let end = ends_within u p r o accepted in
    let v = some_of (outcome end.1) end.4 in
    let cost = cost_is u p r o end.0 end.1 v.0 end.2 end.3 v.1 in
    let less = fewer_steps s end.0 n c end.1 d v.0 end.3 v.1 ran e in
    record {
      few = omega (arith, less, steps_within s end.0 c end.1 end.3, end.2);
      below = omega (arith, cost, work_more s n c d ran, work_grows s n end.0 c end.1 less end.3);
      within = omega (arith, cost, end.2);
    }

no_verdict : (ps : List Piece) → final_verdict ps [] ≡ None
no_verdict [] = refl
no_verdict (p ∷ ps) = refl

-- a run that has made no step has no verdict
pub none_at_start : (u : Content) (r o : ℕ) → outcome (start (tree_of_rule u r) o) ≡ None
none_at_start u r o = no_verdict (start (tree_of_rule u r) o).pending

-- a pair costs something, and no more than its rule's bound
pub cost_some : (u : Content) (p : Population) (r o : ℕ) → IsAcceptedRun u p r o → (0 < pair_cost u p (r, o)) × (pair_cost u p (r, o) ≤ rule_bound u p r)
cost_some u p r o accepted =
    let at = is_open u p r o 0 (start (tree_of_rule u r) o) accepted refl (none_at_start u r o) in
    (omega (arith, at.below, charged (start (tree_of_rule u r) o)), at.within)
