-- How far a job is once some of it is paid, and what it costs.
use Rattle.std.proofs.Common.{◌≡◌, ℕ, zero, suc, ◌+◌, ◌-◌, ◌*◌, ◌^◌, ◌<◌, ◌≤◌, List, [], ◌∷◌, ◌++◌, length, map, take, get_or, sum, All, refl, sym, ap, ◌∙◌, subst, arith, inl, inr, if◌then◌else◌, Option, Some, None}
use Rattle.std.specs.Prelude.{unwrap_or, slice_get}
use Rattle.std.proofs.lemmas.Bool.Decides.{leb_tells}
use Rattle.std.proofs.lemmas.List.{length-map, map-append, get_or-map, take_all}
use Rattle.std.proofs.lemmas.List.Elements.{All-append}
use Rattle.std.proofs.lemmas.List.Sums.{sum_by-append, sum_by_more, sum_by-take-le}
use Rattle.std.proofs.lemmas.Nat.{mul-le}
use Rattle.std.proofs.Math.Nat.{le_of_lt}
use Rattle.std.proofs.lemmas.Option.{get_or_from_slice_get, slice_get_within}
use Rattle.ocl_base.proofs.ForAbove.{places_below, places_pass}
use Rattle.imkl_population.specs.Population.{Population, IsInstance, is_instance}
use Rattle.imkl_population.specs.Consistency.{IsConsistent}
use Rattle.rule_code.specs.Content.{Content}
use Rattle.rule_verify.specs.UnitRules.{context_class, unit_rule}
use Rattle.rule_cost.specs.Admission.{Admission, Fits, IsAdmission, rule_step_bound}
use Rattle.rule_machine.specs.Machine.{setting_of, Configuration, run, start}
use Rattle.rule_machine.specs.Charges.{charge_of, work_of}
use Rattle.rule_machine.specs.Outcome.{outcome}
use Rattle.rule_machine.specs.Laws.{IsAcceptedRun, tree_of_rule, rule_bound}
use Rattle.rule_machine.proofs.ForAbove.{charged}
use Rattle.rule_report.specs.Report.{instances_of, context_objects}
use Rattle.rule_report.specs.Cursor.{pairs_of_rules, all_pairs}
use Rattle.rule_report.proofs.ForAbove.{few_instances}
use Rattle.rule_desk.specs.Job.{IsRunnable, pair_charges, charges_of, pair_cost, costs_of, paid_for, greatest_total, bounds_of_rules}
use Rattle.rule_desk.proofs.Totals.{sum_first, sum_of_groups, total_in_group, total_all}
use Rattle.rule_desk.proofs.Runs.{is_open, paid_in_run, none_at_start, cost_some}

abbrev pair : ℕ → ℕ → ℕ × ℕ
pair r o = (r, o)

-- ---- lists of costs

-- the pairs that are paid for, where k are, and of the next one m
pub paid_is : (cs : List ℕ) (k s m : ℕ) → k ≤ length cs → s ≡ sum (take k cs) + m → (k < length cs → m < get_or cs k 0) → (k ≡ length cs → m ≡ 0) → paid_for cs s ≡ k
paid_is [] k s m l e short none = omega (arith, l)
paid_is (c ∷ cs) zero s m l e short none =
    elim (leb_tells c s) [
      | inl t ↦ absurd (omega (arith, t.1, e, short (omega arith)))
      | inr t ↦ ap (λ b. if b then suc (paid_for cs (s - c)) else 0) t.0
    ]
paid_is (c ∷ cs) (suc k) s m l e short none =
    let first = sum_first c (take k cs) in
    let rest : paid_for cs (s - c) ≡ k = paid_is cs k (s - c) m (omega (arith, l)) (omega (arith, e, first)) (λ h. short (omega (arith, h))) (λ h. none (omega (arith, h))) in
    elim (leb_tells c s) [
      | inl t ↦ ap (λ b. if b then suc (paid_for cs (s - c)) else 0) t.0 ∙ ap suc rest
      | inr t ↦ absurd (omega (arith, t.1, e, first))
    ]

-- the cost of a pair more
pub sum_next : (cs : List ℕ) (k : ℕ) → k < length cs → sum (take (k + 1) cs) ≡ sum (take k cs) + get_or cs k 0
sum_next cs k l = sum_by_more (λ x. x) cs k 0 l

pub sum_within : (cs : List ℕ) (k : ℕ) → sum (take k cs) ≤ sum cs
sum_within cs k = sum_by-take-le (λ x. x) cs k

pub sum_whole : (cs : List ℕ) (k : ℕ) → k ≡ length cs → sum (take k cs) ≡ sum cs
sum_whole cs k e = ap sum (take_all k cs (omega (arith, e)))

-- ---- every pair is one of an accepted run

instances_are : (p : Population) (c : Option ℕ) → All (IsInstance p (unwrap_or c 0)) (instances_of p c)
instances_are p None = λ k d l. absurd (omega (arith, l))
instances_are p (Some c) = λ k d l. (places_below (is_instance p c) (length p.objects) k d l, places_pass (is_instance p c) (length p.objects) k d l)

abbrev RunsAll : Content → Population → List (ℕ × ℕ) → Type 0
RunsAll u p qs = All (λ (q : ℕ × ℕ). IsAcceptedRun u p q.0 q.1) qs

rule_runs : (u : Content) (p : Population) (r : ℕ) → IsRunnable u p → r < length u.rules → (os : List ℕ) → All (IsInstance p (setting_of u p r).context) os
    → RunsAll u p (map (λ o. (r, o)) os)
rule_runs u p r can within os all = λ k d l.
    let there : k < length os = omega (arith, l, length-map os (λ (o : ℕ). pair r o)) in
    subst (λ (q : ℕ × ℕ). IsAcceptedRun u p q.0 q.1) (sym (get_or-map (λ o. (r, o)) os k 0 d there))
    (record { model = can.model; population = can.population; unit = can.unit; accepted = can.accepted; rule = within; object = all k 0 there })

runs_below : (u : Content) (p : Population) (n : ℕ) → IsRunnable u p → n ≤ length u.rules → RunsAll u p (pairs_of_rules u p n)
runs_below u p zero can l = λ k d h. absurd (omega (arith, h))
runs_below u p (suc r) can l =
    All-append (λ (q : ℕ × ℕ). IsAcceptedRun u p q.0 q.1) (pairs_of_rules u p r) (map (λ o. (r, o)) (context_objects u p r))
    (runs_below u p r can (omega (arith, l)))
    (rule_runs u p r can (omega (arith, l)) (context_objects u p r) (instances_are p (context_class p.model u (unit_rule u r))))

pub as_many_costs : (u : Content) (p : Population) → length (costs_of u p) ≡ length (all_pairs u p)
as_many_costs u p = length-map (all_pairs u p) (pair_cost u p)

-- no pair is free
pub costs_some : (u : Content) (p : Population) (k : ℕ) → IsRunnable u p → k < length (costs_of u p) → 0 < get_or (costs_of u p) k 0
costs_some u p k can l =
    let there : k < length (all_pairs u p) = omega (arith, l, as_many_costs u p) in
    let q = get_or (all_pairs u p) k (0, 0) in
    let ran = runs_below u p (length u.rules) can (omega arith) k (0, 0) there in
    subst (λ n. 0 < n) (sym (get_or-map (pair_cost u p) (all_pairs u p) k (0, 0) 0 there)) (cost_some u p q.0 q.1 ran).0

-- the cost of the pair that is due
pub cost_at : (u : Content) (p : Population) (k r o : ℕ) → slice_get (all_pairs u p) k ≡ Some (r, o) → (get_or (costs_of u p) k 0 ≡ pair_cost u p (r, o)) × (k < length (costs_of u p))
cost_at u p k r o e =
    let there = slice_get_within (all_pairs u p) k (r, o) e in
    (get_or-map (pair_cost u p) (all_pairs u p) k (0, 0) 0 there ∙ ap (pair_cost u p) (get_or_from_slice_get (all_pairs u p) k (r, o) (0, 0) e), omega (arith, there, as_many_costs u p))

-- its run is one of accepted code
pub pair_runs : (u : Content) (p : Population) (k r o : ℕ) → IsRunnable u p → slice_get (all_pairs u p) k ≡ Some (r, o) → IsAcceptedRun u p r o
pair_runs u p k r o can e =
    let there = slice_get_within (all_pairs u p) k (r, o) e in
    subst (λ (q : ℕ × ℕ). IsAcceptedRun u p q.0 q.1) (get_or_from_slice_get (all_pairs u p) k (r, o) (0, 0) e)
    (runs_below u p (length u.rules) can (omega arith) k (0, 0) there)

-- ---- what is paid of a job's steps

-- all charges are all costs
pub charges_are_costs : (u : Content) (p : Population) → sum (charges_of u p) ≡ sum (costs_of u p)
charges_are_costs u p = sum_of_groups (pair_charges u p) (all_pairs u p)

-- what pays for everything pays for just that
pub paid_all : (u : Content) (p : Population) (t : ℕ) → sum (costs_of u p) ≤ t → greatest_total (charges_of u p) t ≡ sum (costs_of u p)
paid_all u p t l = total_all (charges_of u p) t (omega (arith, l, charges_are_costs u p)) ∙ charges_are_costs u p

-- Of the pair k some steps are made: what pays for them, but not for the next one, pays for just them and the pairs
-- before.
pub paid_in_pair : (u : Content) (p : Population) (k r o n : ℕ) (d : Configuration) (t : ℕ) → IsRunnable u p → slice_get (all_pairs u p) k ≡ Some (r, o)
    → run (setting_of u p r) n (start (tree_of_rule u r) o) ≡ Some d → outcome d ≡ None
    → sum (take k (costs_of u p)) + work_of (setting_of u p r) n (start (tree_of_rule u r) o) ≤ t
    → t < sum (take k (costs_of u p)) + work_of (setting_of u p r) n (start (tree_of_rule u r) o) + charge_of d
    → greatest_total (charges_of u p) t ≡ sum (take k (costs_of u p)) + work_of (setting_of u p r) n (start (tree_of_rule u r) o)
paid_in_pair u p k r o n d t can there ran none from below =
    let s = setting_of u p r in
    let c = start (tree_of_rule u r) o in
    let at = is_open u p r o n d (pair_runs u p k r o can there) ran none in
    let before = sum (take k (costs_of u p)) in
    total_in_group (pair_charges u p) (all_pairs u p) k (r, o) t (work_of s n c) there (omega (arith, from))
    (λ rest. paid_in_run s (rule_bound u p r) n c d rest (t - before) at.few ran none (omega (arith, from)) (omega (arith, from, below)))

-- what all pairs before one cost pays for just them
pub paid_before_pair : (u : Content) (p : Population) (k r o : ℕ) → IsRunnable u p → slice_get (all_pairs u p) k ≡ Some (r, o)
    → greatest_total (charges_of u p) (sum (take k (costs_of u p))) ≡ sum (take k (costs_of u p))
paid_before_pair u p k r o can there =
    let c = start (tree_of_rule u r) o in
    let paid = paid_in_pair u p k r o 0 c (sum (take k (costs_of u p))) can there refl (none_at_start u r o) (omega arith) (omega (arith, charged c)) in
    omega (arith, paid)

-- ---- what a job costs is within its bound

rule_costs : (u : Content) (p : Population) (r : ℕ) (os : List ℕ) → RunsAll u p (map (λ o. (r, o)) os)
    → sum (map (pair_cost u p) (map (λ o. (r, o)) os)) ≤ rule_bound u p r * length os
rule_costs u p r [] all = omega arith
rule_costs u p r (o ∷ os) all =
    let first = sum_first (pair_cost u p (r, o)) (map (pair_cost u p) (map (λ x. (r, x)) os)) in
    let times : rule_bound u p r * suc (length os) ≡ rule_bound u p r + rule_bound u p r * length os = grind arith in
    let rest = rule_costs u p r os (λ k d l. all (suc k) d (omega (arith, l))) in
    omega (arith, rest, first, times, (cost_some u p r o (all 0 (0, 0) (omega arith))).1)

costs_below : (u : Content) (p : Population) (n : ℕ) → IsRunnable u p → n ≤ length u.rules → sum (map (pair_cost u p) (pairs_of_rules u p n)) ≤ bounds_of_rules u p n
costs_below u p zero can l = omega arith
costs_below u p (suc r) can l =
    let os : List ℕ = context_objects u p r in
    let here : List (ℕ × ℕ) = map (λ o. (r, o)) os in
    let both : sum (map (pair_cost u p) (pairs_of_rules u p r ++ here)) ≡ sum (map (pair_cost u p) (pairs_of_rules u p r)) + sum (map (pair_cost u p) here) =
    ap sum (map-append (pair_cost u p) (pairs_of_rules u p r) here) ∙ sum_by-append (λ x. x) (map (pair_cost u p) (pairs_of_rules u p r)) (map (pair_cost u p) here) in
    let runs = rule_runs u p r can (omega (arith, l)) os (instances_are p (context_class p.model u (unit_rule u r))) in
    omega (arith, costs_below u p r can (omega (arith, l)), rule_costs u p r os runs, both)

pub total_within : (u : Content) (p : Population) → IsRunnable u p → sum (costs_of u p) ≤ bounds_of_rules u p (length u.rules)
total_within u p can = costs_below u p (length u.rules) can (omega arith)

-- no bound is large
pub bounds_small : (u : Content) (p : Population) (n : ℕ) → IsConsistent p → ((r : ℕ) → r < length u.rules → rule_bound u p r < 2 ^ 63) → n ≤ length u.rules → bounds_of_rules u p n ≤ n * (2 ^ 63 * 1000000)
bounds_small u p zero consistent small l = omega arith
bounds_small u p (suc r) consistent small l =
    let one = mul-le (rule_bound u p r) (length (context_objects u p r)) (2 ^ 63) 1000000 (le_of_lt (small r (omega (arith, l)))) (few_instances p (context_class p.model u (unit_rule u r)) consistent) in
    let rest = bounds_small u p r consistent small (omega (arith, l)) in
    omega (arith, one, rest)

-- no run is long
pub short_runs : (a : Admission) (p : Population) (r : ℕ) → IsAdmission a → Fits a p → r < length a.resolved.unit.rules → rule_bound a.resolved.unit p r < 2 ^ 63
short_runs a p r admission fits within =
    subst (λ z. rule_step_bound a.resolved.unit z r < 2 ^ 63) (sym fits.1) (admission.below_limit r within)

pub bound_small : (a : Admission) (p : Population) → IsAdmission a → Fits a p → IsRunnable a.resolved.unit p → bounds_of_rules a.resolved.unit p (length a.resolved.unit.rules) < 2 ^ 128
bound_small a p admission fits can =
    let all = bounds_small a.resolved.unit p (length a.resolved.unit.rules) can.population (λ r l. short_runs a p r admission fits l) (omega arith) in
    omega (arith, all, can.unit.rule_count)
