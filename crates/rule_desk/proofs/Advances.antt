-- A grant as far as one pair goes: what the job's fields are after the pair was begun and the machine ran.
use Rattle.std.proofs.Common.{◌≡◌, ℕ, ◌+◌, ◌-◌, ◌^◌, ◌<◌, ◌≤◌, Bool, true, false, List, length, sum, sym, ap, ◌∙◌, subst, arith, Option, Some, None, Result, Ok, Err}
use Rattle.std.specs.Prelude.{IsErr, IsOk, is_err}
use Rattle.imkl_population.specs.Population.{Population}
use Rattle.rule_code.specs.Content.{Content}
use Rattle.rule_verify.specs.UnitRules.{unit_rule, takes_memory}
use Rattle.rule_cost.specs.Admission.{Admission}
use Rattle.ocl_base.specs.declared.memory.OutOfMemory.{OutOfMemory}
use Rattle.rule_values.specs.declared.verdict.Verdict.{Verdict}
use Rattle.rule_machine.specs.declared.progress.Progress.{Progress}
use Rattle.rule_machine.specs.declared.progress.Progress.TheVariants.{Paused, Done}
use Rattle.rule_machine.specs.Machine.{Configuration}
use Rattle.rule_machine.specs.Outcome.{outcome}
use Rattle.rule_machine.specs.Laws.{verdict_at}
use Rattle.rule_machine.specs.Seen.{Seen, Represents}
use Rattle.rule_machine.specs.Contract.{SameTask, Ran, IsCount}
use Rattle.rule_machine.proofs.ForAbove.{charged}
use Rattle.rule_report.specs.Report.{Verdicts, longest_report}
use Rattle.rule_report.specs.Cursor.{CursorSeen, told_pairs, report_until, IsToldBy, IsToldMore}
use Rattle.rule_desk.specs.Seen.{JobSeen, job_seen}
use Rattle.rule_desk.specs.Job.{IsWhole, charges_of, costs_of, greatest_total, total_cost, spent_after}
use Rattle.rule_desk.specs.Calls.{SameJob}
use Rattle.rule_desk.specs.Stands.{IsReady, IsAtPair, Stands, Advanced}
use Rattle.rule_desk.proofs.Costs.{sum_next, sum_within, paid_all, total_within, bound_small}
use Rattle.rule_desk.proofs.Jobs.{Came, RanOn, ran_on, used_at_most, stands_on, paid_on, stands_done, counted, pair_within}

-- the same of a unit and a population that are named
ran_of : (u : Content) (p : Population) (mid new : Seen) (c : CursorSeen) (work g : ℕ) (result : Result Progress OutOfMemory) → mid.unit ≡ u → mid.population ≡ p
    → RanOn mid.unit mid.population new c work g result → RanOn u p new c work g result
ran_of u p mid new c work g result eu ep ran = subst (λ x. RanOn x p new c work g result) eu (subst (λ q. RanOn mid.unit q new c work g result) ep ran)

-- a refused grant is answered by an error
pub advanced_err : {E : Type 0} (old new : JobSeen) (n : ℕ) (r : Result (Option ℕ) E) → IsErr r → old.spent ≤ new.spent → new.spent < old.spent + n → new.spent < total_cost old → IsWhole new
    → Advanced old n r new
advanced_err old new n (Ok x) e from below within whole = let bad = e in cc
advanced_err old new n (Err x) e from below within whole = (from, below, within, whole)

-- what a grant has left at a pair's end
pub advanced_left : {E : Type 0} (old new : JobSeen) (n left : ℕ) (r : Result (Option ℕ) E) → r ≡ Ok (Some left) → Advanced old n r new
    → (left < n) × (new.spent + left ≡ old.spent + n) × (new.spent ≤ total_cost old) × IsWhole new
advanced_left old new n left r e moved = subst (λ x. Advanced old n x new) e moved

cost_of_same : (j i : JobSeen) → SameJob j i → total_cost i ≡ total_cost j
cost_of_same j i same =
    ap (λ a. total_cost (job_seen a i.population 0)) same.admission ∙ ap (λ p. total_cost (job_seen j.admission p 0)) same.population

-- a job that is over after a grant
pub over_is : (j k i : JobSeen) (n rest : ℕ) → SameJob j k → SameJob k i → total_cost i ≤ i.spent → i.spent ≤ total_cost i → i.spent + rest ≡ j.spent + n
    → (i.spent ≡ spent_after j n) × (total_cost j ≤ j.spent + n)
over_is j k i n rest first second over within sum =
    let cost : total_cost i ≡ total_cost j = cost_of_same k i second ∙ cost_of_same j k first in
    let paid = paid_all j.admission.resolved.unit j.population (j.spent + n) (omega (arith, cost, over, sum)) in
    (omega (arith, paid, cost, over, within), omega (arith, cost, over, sum))

-- a call that succeeded is no error
pub not_refused : {A E : Type 0} (r : Result A E) → IsOk r → is_err r ≡ true → ⊥
not_refused (Ok x) h e = let bad = e in cc
not_refused (Err x) h e = let bad = h in cc

-- where there is room for the longest report, the pair that is due can be begun
pub begins : {A E : Type 0} (a : Admission) (p : Population) (c : CursorSeen) (m : Seen) (begun : Bool) (lines : List ℕ) (capacity spent : ℕ) (result : Result A E)
    → Stands a p c m begun lines capacity spent
    → ((v : Verdicts) → IsToldBy c v → lines ≡ report_until c.unit c.population v (told_pairs c) → longest_report c.unit c.population ≤ capacity → IsOk result)
    → longest_report a.resolved.unit p ≤ capacity → IsOk result
begins a p c m begun lines capacity spent result s succeeds room =
    let v = verdict_at a.resolved.unit p in
    let text : report_until a.resolved.unit p v (told_pairs c) ≡ report_until c.unit c.population v (told_pairs c) =
    ap (λ x. report_until x p v (told_pairs c)) (sym s.code) ∙ ap (λ q. report_until c.unit q v (told_pairs c)) (sym s.over) in
    let longest : longest_report a.resolved.unit p ≡ longest_report c.unit c.population = ap (λ x. longest_report x p) (sym s.code) ∙ ap (longest_report c.unit) (sym s.over) in
    succeeds v s.told (s.text ∙ text) (omega (arith, room, longest))

module _
    (a : Admission) (p : Population) (c : CursorSeen) (m mid new : Seen) (begun : Bool) (lines after : List ℕ) (capacity room spent g : ℕ) (result : Result Progress OutOfMemory)
    (s : Stands a p c m begun lines capacity spent)
    (begins : SameTask m mid)
    (same : SameTask mid new)
    (kept : after ≡ lines)
    (ready_by : (work : ℕ) → IsAtPair begun m c work (length lines) capacity → IsReady mid c work (length after) room)
    (ran : Ran mid g result new) where
  mid_unit : mid.unit ≡ a.resolved.unit
  mid_unit = begins.unit ∙ s.machine_code

  mid_population : mid.population ≡ p
  mid_population = begins.population ∙ s.machine_over

  new_unit : new.unit ≡ a.resolved.unit
  new_unit = same.unit ∙ mid_unit

  new_population : new.population ≡ p
  new_population = same.population ∙ mid_population

  pub ready : IsReady mid c s.work (length after) room
  ready = ready_by s.work s.at_pair

  -- the run, and what it used of the grant
  pub went : RanOn a.resolved.unit p new c s.work g result
  went = ran_of a.resolved.unit p mid new c s.work g result mid_unit mid_population (ran_on mid new c s.work (length after) room g result ready ran)

  -- the machine's count rose by that
  pub count_is : (before now : ℕ) → IsCount mid before → IsCount new now → (before ≤ now) × (now - before ≡ went.used)
  count_is before now first second =
      counted a p c m begun lines capacity spent s mid new went.used (length after) room before now ready went.run new_unit first second

  pub used_within_grant : went.used ≤ g
  used_within_grant = used_at_most g went.used went.run.at result went.came

  -- nothing is spent beyond what the job costs
  pub spent_stays : spent + went.used ≤ sum (costs_of a.resolved.unit p)
  spent_stays =
      let at = pair_within a p c m begun lines capacity spent s new went.used g result went.run new_unit new_population went.came in
      let costs = costs_of a.resolved.unit p in
      omega (arith, s.sum, at.0, at.1, sum_next costs (told_pairs c) at.1, sum_within costs (told_pairs c + 1))

  pub spent_fits : spent + went.used < 2 ^ 128
  spent_fits = omega (arith, spent_stays, total_within a.resolved.unit p s.runnable, bound_small a p s.admission s.fits s.runnable)

  -- while the run isn't at its end
  pub still_stands : outcome went.run.at ≡ None → Stands a p c new true after room (spent + went.used)
  still_stands none =
      stands_on a p c m begun lines capacity spent s new went.used a.resolved.unit p went.run after room new_unit new_population none kept ready.room

  pub paused_at : (r : result ≡ Ok Paused) → outcome went.run.at ≡ None
  paused_at r = (subst (λ x. Came g went.used went.run.at x) r went.came).2

  pub refused_at : (e : OutOfMemory) → result ≡ Err e → (outcome went.run.at ≡ None) × (went.used < g)
  refused_at e r =
      let came = subst (λ x. Came g went.used went.run.at x) r went.came in
      (came.1, omega (arith, came.0, charged went.run.at))

  -- a run that isn't at its end leaves something to pay
  pub below_cost : outcome went.run.at ≡ None → spent + went.used < sum (costs_of a.resolved.unit p)
  below_cost none =
      let paid = paid_on a p c m begun lines capacity spent s new went.used went.used a.resolved.unit p went.run new_unit new_population none (omega arith) (omega (arith, charged went.run.at)) in
      paid.1

  -- a pause comes where what is left doesn't pay for the next step
  pub paused_pays : result ≡ Ok Paused → (spent + went.used ≡ greatest_total (charges_of a.resolved.unit p) (spent + g)) × (spent + g < sum (costs_of a.resolved.unit p))
  paused_pays r =
      let came = subst (λ x. Came g went.used went.run.at x) r went.came in
      paid_on a p c m begun lines capacity spent s new g went.used a.resolved.unit p went.run new_unit new_population came.2 came.0 came.1

  -- the pair's verdict is told
  pub next_stands : (v : Verdict) (d : CursorSeen) (told : List ℕ) (rest : ℕ) → result ≡ Ok (Done v) → IsToldMore c v after d told → (0 < went.used) × Stands a p d new false told rest (spent + went.used)
  next_stands v d told rest r more =
      let came = subst (λ x. Came g went.used went.run.at x) r went.came in
      (came.0, stands_done a p c m begun lines capacity spent s new went.used went.run v d after told rest new_unit new_population came.2 kept more)

  -- where no rule takes memory, the run goes on
  pub goes_on : ((r : ℕ) → r < length a.resolved.unit.rules → takes_memory (unit_rule a.resolved.unit r) ≡ false)
      → ((r o : ℕ) (d : Configuration) (k : ℕ) → Represents mid r o d k → takes_memory (unit_rule mid.unit r) ≡ false → IsOk result) → IsOk result
  goes_on none succeeds =
      let within : ready.rule < length a.resolved.unit.rules = subst (λ u. ready.rule < length u.rules) mid_unit ready.stands.accepted.rule in
      succeeds ready.rule ready.object ready.at s.work ready.stands (subst (λ u. takes_memory (unit_rule u ready.rule) ≡ false) (sym mid_unit) (none ready.rule within))
