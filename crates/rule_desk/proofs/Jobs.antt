-- How the fields of a job stand to what is seen of it, and how they move.
use Rattle.std.proofs.Common.{◌≡◌, ℕ, zero, suc, ◌+◌, ◌-◌, ◌<◌, ◌≤◌, Bool, true, false, List, [], ◌++◌, length, take, get_or, sum, refl, sym, ap, ◌∙◌, subst, arith, inl, inr, Option, Some, None, Result, Ok, Err}
use Rattle.std.specs.Prelude.{slice_get, IsSome, is_none, ◌↔◌}
use Rattle.std.proofs.lemmas.Option.{slice_get_within, slice_get-get_or}
use Rattle.std.proofs.lemmas.Bool.{cases_lt}
use Rattle.imkl_population.specs.Population.{Population}
use Rattle.rule_code.specs.Content.{Content}
use Rattle.rule_cost.specs.Admission.{Admission, Fits, IsAdmission}
use Rattle.ocl_base.specs.declared.memory.OutOfMemory.{OutOfMemory}
use Rattle.rule_values.specs.declared.verdict.Verdict.{Verdict}
use Rattle.rule_machine.specs.declared.progress.Progress.{Progress}
use Rattle.rule_machine.specs.declared.progress.Progress.TheVariants.{Paused, Done}
use Rattle.rule_machine.specs.Machine.{Setting, setting_of, Configuration, run, start}
use Rattle.rule_machine.specs.Charges.{charge_of, work_of}
use Rattle.rule_machine.specs.Outcome.{outcome}
use Rattle.rule_machine.specs.Laws.{tree_of_rule, rule_bound, verdict_at}
use Rattle.rule_machine.specs.Seen.{Seen, Represents}
use Rattle.rule_machine.specs.Contract.{Ran, IsCount, Further}
use Rattle.rule_machine.proofs.ForAbove.{charged, work_more, steps_within, verdict_found}
use Rattle.rule_report.specs.Report.{Verdicts}
use Rattle.rule_report.specs.Cursor.{CursorSeen, told_pairs, all_pairs, due, verdict_due, IsToldBy, IsToldMore, part_of, report_until, room_of}
use Rattle.rule_report.proofs.ForAbove.{until_next, until_first}
use Rattle.rule_desk.specs.Job.{IsRunnable, charges_of, pair_cost, costs_of, greatest_total, lines_at, bounds_of_rules}
use Rattle.rule_desk.specs.Stands.{IsReady, IsAtPair, Stands}
use Rattle.rule_desk.proofs.Runs.{cost_is, is_open}
use Rattle.rule_desk.proofs.Costs.{paid_is, sum_next, sum_within, sum_whole, as_many_costs, costs_some, cost_at, paid_all, paid_in_pair, paid_before_pair, total_within, short_runs}

-- ---- an open run of a pair

-- a run that the machine is in, without a verdict, of a unit and a population that are named
pub record IsUnder (u : Content) (p : Population) (r o work : ℕ) (d : Configuration) : Type 0 where
  pub made : ℕ
  pub reached : run (setting_of u p r) made (start (tree_of_rule u r) o) ≡ Some d
  pub charged_so : work ≡ work_of (setting_of u p r) made (start (tree_of_rule u r) o)
  pub below : work + charge_of d ≤ pair_cost u p (r, o)

pub is_under : (u : Content) (p : Population) (m : Seen) (r o work : ℕ) (d : Configuration) → m.unit ≡ u → m.population ≡ p → Represents m r o d work → outcome d ≡ None → IsUnder u p r o work d
is_under u p m r o work d eu ep rep e =
    let here : IsUnder m.unit m.population r o work d = record {
      made = rep.made;
      reached = rep.reached;
      charged_so = rep.work;
      below = omega (arith, rep.work, (is_open m.unit m.population r o rep.made d rep.accepted rep.reached e).below);
    } in
    subst (λ x. IsUnder x p r o work d) eu (subst (λ q. IsUnder m.unit q r o work d) ep here)

-- ---- a job that stands

module _ (a : Admission) (p : Population) (c : CursorSeen) (m : Seen) (begun : Bool) (lines : List ℕ) (capacity spent : ℕ) (s : Stands a p c m begun lines capacity spent) where
  -- the pair that is due
  pub due_in : due c ≡ slice_get (all_pairs a.resolved.unit p) (told_pairs c)
  due_in = ap (λ x. slice_get (all_pairs x c.population) (told_pairs c)) s.code ∙ ap (λ q. slice_get (all_pairs a.resolved.unit q) (told_pairs c)) s.over

  pub some_due : (q : ℕ × ℕ) → due c ≡ Some q → told_pairs c < length (costs_of a.resolved.unit p)
  some_due q e = omega (arith, slice_get_within (all_pairs a.resolved.unit p) (told_pairs c) q (sym due_in ∙ e), as_many_costs a.resolved.unit p)

  pub none_left : due c ≡ None → told_pairs c ≡ length (costs_of a.resolved.unit p)
  none_left e =
      elim (cases_lt (told_pairs c) (length (costs_of a.resolved.unit p))) [
        | inl l ↦
            let there : told_pairs c < length (all_pairs a.resolved.unit p) = omega (arith, l, as_many_costs a.resolved.unit p) in
            let bad = sym (slice_get-get_or (all_pairs a.resolved.unit p) (told_pairs c) (0, 0) there) ∙ (sym due_in ∙ e) in cc
        | inr g ↦ omega (arith, g, s.pairs)
      ]

  pub spent_below : told_pairs c < length (costs_of a.resolved.unit p) → spent < sum (costs_of a.resolved.unit p)
  spent_below l =
      omega (arith, s.sum, s.short l, sum_next (costs_of a.resolved.unit p) (told_pairs c) l, sum_within (costs_of a.resolved.unit p) (told_pairs c + 1))

  pub spent_all : told_pairs c ≡ length (costs_of a.resolved.unit p) → spent ≡ sum (costs_of a.resolved.unit p)
  spent_all e = omega (arith, s.sum, s.none e, sum_whole (costs_of a.resolved.unit p) (told_pairs c) e)

  pub spent_within : spent ≤ sum (costs_of a.resolved.unit p)
  spent_within =
      elim (cases_lt (told_pairs c) (length (costs_of a.resolved.unit p))) [
        | inl l ↦ omega (arith, spent_below l)
        | inr g ↦ omega (arith, spent_all (omega (arith, g, s.pairs)))
      ]

  -- there is one, where less is spent than the cost
  pub is_due : spent < sum (costs_of a.resolved.unit p) → IsSome (due c)
  is_due l =
      elim (cases_lt (told_pairs c) (length (costs_of a.resolved.unit p))) [
        | inl h ↦
            let there : told_pairs c < length (all_pairs a.resolved.unit p) = omega (arith, h, as_many_costs a.resolved.unit p) in
            subst IsSome (sym (due_in ∙ slice_get-get_or (all_pairs a.resolved.unit p) (told_pairs c) (0, 0) there)) refl
        | inr g ↦ absurd (omega (arith, l, spent_all (omega (arith, g, s.pairs))))
      ]

  -- none is left exactly where all is spent
  pub over_when : (o : Option (ℕ × ℕ)) → due c ≡ o → (is_none o ≡ true) ↔ (sum (costs_of a.resolved.unit p) ≤ spent)
  over_when None e = (λ b. omega (arith, spent_all (none_left e)), λ h. refl)
  over_when (Some q) e = (λ b. let bad = b in cc, λ h. absurd (omega (arith, h, spent_below (some_due q e))))

  pub lines_are : lines ≡ lines_at a.resolved.unit p spent
  lines_are =
      s.text ∙ ap (report_until a.resolved.unit p (verdict_at a.resolved.unit p)) (sym (paid_is (costs_of a.resolved.unit p) (told_pairs c) spent s.work s.pairs s.sum s.short s.none))

  -- what is left pays for no step more of a run that is under way
  pub paid_under : (r o work : ℕ) (d : Configuration) (t : ℕ) → due c ≡ Some (r, o) → IsUnder a.resolved.unit p r o work d → outcome d ≡ None
      → sum (take (told_pairs c) (costs_of a.resolved.unit p)) + work ≤ t → t < sum (take (told_pairs c) (costs_of a.resolved.unit p)) + work + charge_of d
      → greatest_total (charges_of a.resolved.unit p) t ≡ sum (take (told_pairs c) (costs_of a.resolved.unit p)) + work
  paid_under r o work d t there run_under none from below =
      let w = run_under.charged_so in
      let paid = paid_in_pair a.resolved.unit p (told_pairs c) r o run_under.made d t s.runnable (sym due_in ∙ there) run_under.reached none (omega (arith, from, w)) (omega (arith, below, w)) in
      omega (arith, paid, w)

  whole_at : (b : Bool) → IsAtPair b m c s.work (length lines) capacity → greatest_total (charges_of a.resolved.unit p) spent ≡ spent
  whole_at true ready =
      let run_under = is_under a.resolved.unit p m ready.rule ready.object s.work ready.at s.machine_code s.machine_over ready.stands ready.goes in
      let paid = paid_under ready.rule ready.object s.work ready.at spent ready.due run_under ready.goes (omega (arith, s.sum)) (omega (arith, s.sum, charged ready.at)) in
      omega (arith, paid, s.sum)
  whole_at false no_work = by_due (due c) refl
    where
      by_due : (o : Option (ℕ × ℕ)) → due c ≡ o → greatest_total (charges_of a.resolved.unit p) spent ≡ spent
      by_due None e =
          let all = spent_all (none_left e) in
          omega (arith, paid_all a.resolved.unit p spent (omega (arith, all)), all)
      by_due (Some q) e =
          let paid = paid_before_pair a.resolved.unit p (told_pairs c) q.0 q.1 s.runnable (sym due_in ∙ e) in
          let same : spent ≡ sum (take (told_pairs c) (costs_of a.resolved.unit p)) = omega (arith, s.sum, no_work) in
          subst (λ x. greatest_total (charges_of a.resolved.unit p) x ≡ x) (sym same) paid

  -- what is spent is the total of whole steps
  pub spent_whole : greatest_total (charges_of a.resolved.unit p) spent ≡ spent
  spent_whole = whole_at begun s.at_pair

  -- nor ever above the bound
  pub spent_bounded : spent ≤ bounds_of_rules a.resolved.unit p (length a.resolved.unit.rules)
  spent_bounded = omega (arith, spent_within, total_within a.resolved.unit p s.runnable)

-- ---- a new job

pub stands_new : (a : Admission) (p : Population) (c : CursorSeen) (m : Seen) (lines : List ℕ) (capacity : ℕ)
    → IsAdmission a → Fits a p → IsRunnable a.resolved.unit p → c.unit ≡ a.resolved.unit → c.population ≡ p → m.unit ≡ a.resolved.unit → m.population ≡ p
    → told_pairs c ≡ 0 → ((v : Verdicts) → IsToldBy c v) → ((v : Verdicts) → lines ≡ [] ++ part_of a.resolved.unit p v 0)
    → Stands a p c m false lines capacity 0
stands_new a p c m lines capacity admission fits can code over mcode mover none told part =
    let u = a.resolved.unit in
    record {
      admission = admission;
      fits = fits;
      runnable = can;
      code = code;
      over = over;
      machine_code = mcode;
      machine_over = mover;
      told = told (verdict_at u p);
      text = part (verdict_at u p) ∙ sym (until_first u p (verdict_at u p)) ∙ ap (report_until u p (verdict_at u p)) (sym none);
      pairs = omega (arith, none);
      work = 0;
      sum = omega (arith, ap (λ n. sum (take n (costs_of u p))) none);
      short = λ l. costs_some u p (told_pairs c) can l;
      none = λ e. refl;
      at_pair = refl;
    }

-- ---- a run of the pair that is due goes on

-- the machine is in its run, which is charged so much
pub record IsInPair (u : Content) (p : Population) (m : Seen) (c : CursorSeen) (work : ℕ) : Type 0 where
  pub rule : ℕ
  pub object : ℕ
  pub at : Configuration
  pub due : due c ≡ Some (rule, object)
  pub stands : Represents m rule object at work
  pub within : work ≤ rule_bound u p rule

-- what a grant of g comes to, of which w is used, in the configuration d
abbrev pub Came : ℕ → ℕ → Configuration → Result Progress OutOfMemory → Type 0
Came g w d (Ok Paused) = (w ≤ g) × (g < w + charge_of d) × (outcome d ≡ None)
Came g w d (Ok (Done v)) = (0 < w) × (w ≤ g) × (outcome d ≡ Some v)
Came g w d (Err e) = (w + charge_of d ≤ g) × (outcome d ≡ None)

pub record RanOn (u : Content) (p : Population) (new : Seen) (c : CursorSeen) (work g : ℕ) (result : Result Progress OutOfMemory) : Type 0 where
  pub used : ℕ
  pub run : IsInPair u p new c (work + used)
  pub came : Came g used run.at result

abbrev in_pair : (m new : Seen) (c : CursorSeen) (work len capacity n : ℕ) (d : Configuration) → (ready : IsReady m c work len capacity)
    → Further m ready.rule ready.object ready.at work n d new → IsInPair m.unit m.population new c (work + work_of (setting_of m.unit m.population ready.rule) n ready.at)
in_pair m new c work len capacity n d ready f = record { rule = ready.rule; object = ready.object; at = d; due = ready.due; stands = f.stands; within = f.within }

-- a verdict comes after a step at least
some_used : (s : Setting) (n : ℕ) (c d : Configuration) (v : Verdict) → outcome c ≡ None → run s n c ≡ Some d → outcome d ≡ Some v → 0 < work_of s n c
some_used s zero c d v none r e = let same : c ≡ d = cc in let bad : None ≡ Some v = sym none ∙ ap outcome same ∙ e in cc
some_used s (suc n) c d v none r e = omega (arith, steps_within s (suc n) c d r)

pub ran_on : (m new : Seen) (c : CursorSeen) (work len capacity g : ℕ) (result : Result Progress OutOfMemory) → IsReady m c work len capacity → Ran m g result new
    → RanOn m.unit m.population new c work g result
ran_on m new c work len capacity g (Ok Paused) ready ran =
    let r = ran ready.rule ready.object ready.at work ready.stands in
    let s = setting_of m.unit m.population ready.rule in
    record { used = work_of s r.0 ready.at; run = in_pair m new c work len capacity r.0 r.1 ready r.5; came = (r.3, omega (arith, r.4, work_more s r.0 ready.at r.1 r.5.ran), r.2) }
ran_on m new c work len capacity g (Ok (Done v)) ready ran =
    let r = ran ready.rule ready.object ready.at work ready.stands in
    let s = setting_of m.unit m.population ready.rule in
    record { used = work_of s r.0 ready.at; run = in_pair m new c work len capacity r.0 r.1 ready r.4; came = (some_used s r.0 ready.at r.1 v ready.goes r.4.ran r.2, r.3, r.2) }
ran_on m new c work len capacity g (Err e) ready ran =
    let r = ran ready.rule ready.object ready.at work ready.stands in
    let s = setting_of m.unit m.population ready.rule in
    record { used = work_of s r.0 ready.at; run = in_pair m new c work len capacity r.0 r.1 ready r.4; came = (omega (arith, r.3, work_more s r.0 ready.at r.1 r.4.ran), r.2) }

pub used_at_most : (g w : ℕ) (d : Configuration) (result : Result Progress OutOfMemory) → Came g w d result → w ≤ g
used_at_most g w d (Ok Paused) h = h.0
used_at_most g w d (Ok (Done v)) h = h.1
used_at_most g w d (Err e) h = omega (arith, h.0)

-- of a run with a verdict: the pair's cost, and its verdict
ended : (u : Content) (p : Population) (m : Seen) (r o k : ℕ) (d : Configuration) (v : Verdict) → m.unit ≡ u → m.population ≡ p → Represents m r o d k → k ≤ rule_bound u p r → outcome d ≡ Some v
    → (pair_cost u p (r, o) ≡ k) × (verdict_at u p r o ≡ Some v)
ended u p m r o k d v eu ep rep l e =
    let P : Content → Population → Type 0 = λ x q. k ≤ rule_bound x q r → (pair_cost x q (r, o) ≡ k) × (verdict_at x q r o ≡ Some v) in
    let here : P m.unit m.population = λ h.
    let s = setting_of m.unit m.population r in
    let c = start (tree_of_rule m.unit r) o in
    let few : rep.made ≤ rule_bound m.unit m.population r = omega (arith, h, rep.work, steps_within s rep.made c d rep.reached) in
    (cost_is m.unit m.population r o rep.made d v (omega (arith, h, rep.work)) rep.reached e ∙ sym rep.work, verdict_found m.unit m.population r o rep.accepted (rule_bound m.unit m.population r) rep.made c d v rep.reached e few) in
    subst (λ x. P x p) eu (subst (P m.unit) ep here) l

-- ---- how a job moves

module _ (a : Admission) (p : Population) (c : CursorSeen) (m : Seen) (begun : Bool) (lines : List ℕ) (capacity spent : ℕ) (s : Stands a p c m begun lines capacity spent) where
  -- after a run that didn't come to the pair's end
  pub stands_on : (new : Seen) (used : ℕ) (u : Content) (q : Population) (t : IsInPair u q new c (s.work + used)) (after : List ℕ) (room : ℕ) → new.unit ≡ a.resolved.unit → new.population ≡ p → outcome t.at ≡ None
      → after ≡ lines → length after + room_of c ≤ room → Stands a p c new true after room (spent + used)
  stands_on new used u q t after room eu ep none same enough =
      let at = cost_at a.resolved.unit p (told_pairs c) t.rule t.object (sym (due_in a p c m begun lines capacity spent s) ∙ t.due) in
      let open_run = is_under a.resolved.unit p new t.rule t.object (s.work + used) t.at eu ep t.stands none in
      record {
        admission = s.admission;
        fits = s.fits;
        runnable = s.runnable;
        code = s.code;
        over = s.over;
        machine_code = eu;
        machine_over = ep;
        told = s.told;
        text = same ∙ s.text;
        pairs = s.pairs;
        work = s.work + used;
        sum = omega (arith, s.sum);
        short = λ l. omega (arith, open_run.below, at.0, charged t.at);
        none = λ e. absurd (omega (arith, e, at.1));
        at_pair = record { rule = t.rule; object = t.object; at = t.at; due = t.due; stands = t.stands; goes = none; room = enough };
      }

  -- a grant that ends within the pair, since what is left doesn't pay for the next step
  pub paid_on : (new : Seen) (g used : ℕ) (u : Content) (q : Population) (t : IsInPair u q new c (s.work + used)) → new.unit ≡ a.resolved.unit → new.population ≡ p → outcome t.at ≡ None
      → used ≤ g → g < used + charge_of t.at
      → (spent + used ≡ greatest_total (charges_of a.resolved.unit p) (spent + g)) × (spent + g < sum (costs_of a.resolved.unit p))
  paid_on new g used u q t eu ep none from below =
      let k = told_pairs c in
      let costs = costs_of a.resolved.unit p in
      let open_run = is_under a.resolved.unit p new t.rule t.object (s.work + used) t.at eu ep t.stands none in
      let paid = paid_under a p c m begun lines capacity spent s t.rule t.object (s.work + used) t.at (spent + g) t.due open_run none (omega (arith, s.sum, from)) (omega (arith, s.sum, below)) in
      let at = cost_at a.resolved.unit p k t.rule t.object (sym (due_in a p c m begun lines capacity spent s) ∙ t.due) in
      (omega (arith, paid, s.sum), omega (arith, s.sum, below, open_run.below, at.0, sum_next costs k at.1, sum_within costs (k + 1)))

  -- what the pair that is due is charged so far is within its cost
  pub pair_within : (new : Seen) (used g : ℕ) (result : Result Progress OutOfMemory) (t : IsInPair a.resolved.unit p new c (s.work + used)) → new.unit ≡ a.resolved.unit → new.population ≡ p → Came g used t.at result
      → (s.work + used ≤ get_or (costs_of a.resolved.unit p) (told_pairs c) 0) × (told_pairs c < length (costs_of a.resolved.unit p))
  pair_within new used g result t eu ep came =
      let at = cost_at a.resolved.unit p (told_pairs c) t.rule t.object (sym (due_in a p c m begun lines capacity spent s) ∙ t.due) in
      (by_result result came at.0, at.1)
    where
      by_open : outcome t.at ≡ None → get_or (costs_of a.resolved.unit p) (told_pairs c) 0 ≡ pair_cost a.resolved.unit p (t.rule, t.object) → s.work + used ≤ get_or (costs_of a.resolved.unit p) (told_pairs c) 0
      by_open none cost = omega (arith, (is_under a.resolved.unit p new t.rule t.object (s.work + used) t.at eu ep t.stands none).below, cost)

      by_result : (r : Result Progress OutOfMemory) → Came g used t.at r → get_or (costs_of a.resolved.unit p) (told_pairs c) 0 ≡ pair_cost a.resolved.unit p (t.rule, t.object)
          → s.work + used ≤ get_or (costs_of a.resolved.unit p) (told_pairs c) 0
      by_result (Ok Paused) h cost = by_open h.2 cost
      by_result (Ok (Done v)) h cost = omega (arith, (ended a.resolved.unit p new t.rule t.object (s.work + used) t.at v eu ep t.stands t.within h.2).0, cost)
      by_result (Err e) h cost = by_open h.1 cost

  -- after a run that came to the pair's end, and its verdict is told
  pub stands_done : (new : Seen) (used : ℕ) (t : IsInPair a.resolved.unit p new c (s.work + used)) (v : Verdict) (d : CursorSeen) (before after : List ℕ) (room : ℕ) → new.unit ≡ a.resolved.unit → new.population ≡ p → outcome t.at ≡ Some v
      → before ≡ lines → IsToldMore c v before d after → Stands a p d new false after room (spent + used)
  stands_done new used t v d before after room eu ep some same more =
      let u = a.resolved.unit in
      let there = sym (due_in a p c m begun lines capacity spent s) ∙ t.due in
      let at = cost_at u p (told_pairs c) t.rule t.object there in
      let found = ended u p new t.rule t.object (s.work + used) t.at v eu ep t.stands t.within some in
      let is_due : verdict_due (verdict_at u p) (due c) ≡ Some v = ap (verdict_due (verdict_at u p)) t.due ∙ found.1 in
      let next_pair : told_pairs d ≡ told_pairs c + 1 = omega (arith, more.more) in
      let part : part_of c.unit c.population (verdict_at u p) (suc (told_pairs c)) ≡ part_of u p (verdict_at u p) (suc (told_pairs c)) =
      ap (λ x. part_of x c.population (verdict_at u p) (suc (told_pairs c))) s.code ∙ ap (λ q. part_of u q (verdict_at u p) (suc (told_pairs c))) s.over in
      record {
        admission = s.admission;
        fits = s.fits;
        runnable = s.runnable;
        code = more.unit ∙ s.code;
        over = more.population ∙ s.over;
        machine_code = eu;
        machine_over = ep;
        told = more.told (verdict_at u p) s.told is_due;
        text =
            more.part (verdict_at u p) s.told is_due
            ∙ ap (λ (x : List ℕ). before ++ x) part ∙ ap (λ (x : List ℕ). x ++ part_of u p (verdict_at u p) (suc (told_pairs c))) (same ∙ s.text)
            ∙ sym (until_next u p (verdict_at u p) (told_pairs c) (omega (arith, at.1, as_many_costs u p)))
            ∙ ap (report_until u p (verdict_at u p)) (sym more.more);
        pairs = omega (arith, at.1, next_pair);
        work = 0;
        sum = omega (arith, s.sum, sum_next (costs_of u p) (told_pairs c) at.1, at.0, found.0, ap (λ k. sum (take k (costs_of u p))) next_pair);
        short = λ l. costs_some u p (told_pairs d) s.runnable l;
        none = λ e. refl;
        at_pair = refl;
      }

  -- the machine's count is exact
  pub counted : (ready_m new : Seen) (used len room before after : ℕ) → IsReady ready_m c s.work len room → (t : IsInPair a.resolved.unit p new c (s.work + used)) → new.unit ≡ a.resolved.unit
      → IsCount ready_m before → IsCount new after → (before ≤ after) × (after - before ≡ used)
  counted ready_m new used len room before after ready t eu first second =
      let one = first ready.rule ready.object ready.at s.work ready.stands in
      let two = second t.rule t.object t.at (s.work + used) t.stands in
      let within : t.rule < length a.resolved.unit.rules = subst (λ x. t.rule < length x.rules) eu t.stands.accepted.rule in
      let small = short_runs a p t.rule s.admission s.fits within in
      (omega (arith, one, two, small, t.within), omega (arith, one, two, small, t.within))
