-- Runs of a machine are those of the configurations that it stands for.
use Rattle.std.proofs.Common.{◌≡◌, ℕ, zero, suc, ◌+◌, ◌-◌, ◌^◌, ◌<◌, ◌≤◌, List, [], ◌∷◌, true, Option, Some, None, Result, Ok, Err, refl, sym, ap, ◌∙◌, subst, ⊎_elim, arith}
use Rattle.std.specs.Prelude.{min, IsSome, option_and_then}
use Rattle.imkl_population.specs.declared.scalar.Scalar.TheVariants as scalar
use Rattle.rule_code.specs.Content.{Content}
use Rattle.rule_verify.specs.declared.depths.Depths.{Depths}
use Rattle.rule_verify.specs.Patterns.{a_boolean}
use Rattle.rule_values.specs.Value as value
use Rattle.rule_values.specs.Value.{Value}
use Rattle.rule_slots.specs.Slots.{Lists}
use Rattle.rule_machine.specs.Places.{Place, AllAt, now_at, Mark, Here, Iterating}
use Rattle.rule_machine.specs.Live.{IsOneBoolean, Going}
use Rattle.imkl_population.specs.Population.{Population}
use Rattle.ocl_base.specs.declared.memory.OutOfMemory.{OutOfMemory}
use Rattle.rule_values.specs.declared.verdict.Verdict.{Verdict}
use Rattle.rule_machine.specs.declared.state.State.{State}
use Rattle.rule_machine.specs.declared.state.Started.{Started}
use Rattle.rule_machine.specs.declared.task.Task.{Task}
use Rattle.rule_machine.specs.Machine.{Setting, setting_of, is_what, Piece, Configuration, step, run, start}
use Rattle.rule_machine.specs.Outcome.{outcome}
use Rattle.rule_machine.specs.Laws.{IsAcceptedRun, tree_of_rule, rule_bound, rule_depths_in, first_there, verdict_within, verdict_at}
use Rattle.rule_machine.specs.Shown.{setting_in, task_lists, depths_in, HasNext, Is, IsTruth, EndsInTruth, CanGoOn, HasRoomFor, Room, SameRoom, Same, Stepped, IsAtFront, IsStartOf, IsTaskOf}
use Rattle.rule_machine.specs.Charges.{charge_of, work_of}
use Rattle.rule_machine.specs.Seen.{Seen, seen, seen_in, Represents}
use Rattle.rule_machine.specs.Contract.{Further, IsStarted, IsPaused, IsDone, IsRefused, Judged}
use Rattle.rule_machine.proofs.Charged.{charged, work_more, steps_within}
use Rattle.rule_machine.proofs.Moves.{moves}
use Rattle.rule_machine.proofs.Runs.{final_stops}
use Rattle.rule_machine.proofs.InKinds.{matches_in}
use Rattle.rule_machine.proofs.Rooms.{room_is, front_has_none}
use Rattle.rule_machine.proofs.Theorems.{goes_on_at, stays_within_depths}

-- ---- runs of configurations

run_suc : (s : Setting) (n : ℕ) (c d e : Configuration) → run s n c ≡ Some d → step s d ≡ Some e → run s (suc n) c ≡ Some e
run_suc s zero c d e r h = let same : c ≡ d = cc in ap (λ x. option_and_then (run s 0) (step s x)) same ∙ ap (option_and_then (run s 0)) h
run_suc s (suc n) c d e r h = by_first (step s c) r (λ x q. run_suc s n x d e q h)
  where
    by_first : (o : Option Configuration) → option_and_then (run s n) o ≡ Some d → ((x : Configuration) → run s n x ≡ Some d → run s (suc n) x ≡ Some e) → option_and_then (run s (suc n)) o ≡ Some e
    by_first None r more = cc
    by_first (Some x) r more = more x r

-- a run, and one step more
pub run_more : (s : Setting) (n : ℕ) (c d e : Configuration) → run s n c ≡ Some d → step s d ≡ Some e → run s (n + 1) c ≡ Some e
run_more s n c d e r h = let one : suc n ≡ n + 1 = omega arith in subst (λ m. run s m c ≡ Some e) one (run_suc s n c d e r h)

work_next : (s : Setting) (n : ℕ) (c d : Configuration) → run s n c ≡ Some d → work_of s (n + 1) c ≡ work_of s n c + charge_of d
work_next s n c d r = let one : n + 1 ≡ suc n = omega arith in ap (λ m. work_of s m c) one ∙ work_more s n c d r

-- with nothing pending, the operand of a configuration that can go on is one that may be the verdict
truth_in : (pop : Population) (v : Value) → is_what pop a_boolean v ≡ true → IsTruth v
truth_in pop (value.Single (scalar.Bool b)) h = tt
truth_in pop (value.Single (scalar.Int n)) h = cc
truth_in pop (value.Single (scalar.Text t)) h = cc
truth_in pop (value.Single (scalar.Literal e l)) h = cc
truth_in pop (value.Single (scalar.Object o)) h = cc
truth_in pop value.Null h = tt
truth_in pop value.Invalid h = tt
truth_in pop (value.Collection c es) h = cc

at_end : (s : Setting) (d : Depths) (q : List Piece) (os : List Value) (ms : List Mark) (n : ℕ) → AllAt s os (now_at s q ms).operands → Going s d q ms n → EndsInTruth q os
at_end s d (x ∷ q) os ms n a g = tt
at_end s d [] [] ms n a g = tt
at_end s d [] (v ∷ os) [] n a g = absurd g
at_end s d [] (v ∷ os) (Here at ∷ []) n a g = by_places at.operands a g
  where
    by_places : (ps : List Place) → AllAt s (v ∷ os) ps → IsOneBoolean s ps → IsTruth v
    by_places [] a g = absurd a
    by_places (p ∷ []) a g = truth_in s.population v (matches_in s.population a_boolean p.kind v g a.0.in_kind)
    by_places (p ∷ q ∷ ps) a g = absurd g
at_end s d [] (v ∷ os) (Here at ∷ m ∷ ms) n a g = absurd g
at_end s d [] (v ∷ os) (Iterating p r below ∷ ms) n a g = absurd g

-- a configuration without a verdict has a next one, within the bound
module _ (u : Content) (p : Population) (r o n : ℕ) (c : Configuration) (accepted : IsAcceptedRun u p r o) (reached : run (setting_of u p r) n (start (tree_of_rule u r) o) ≡ Some c) where
  pub goes_on : outcome c ≡ None → (d : Configuration) × (step (setting_of u p r) c ≡ Some d) × (n < rule_bound u p r)
  goes_on none =
      let l = goes_on_at u p r o n c accepted reached in
      ⊎_elim (λ f. absurd (no_verdict (outcome c) none f)) (λ m. (m.0, m.2, omega (arith, m.3, l.3, charged c, steps_within (setting_of u p r) n (start (tree_of_rule u r) o) c reached))) (moves (setting_of u p r) (rule_depths_in u p r) accepted.model accepted.population c l.0 l.1 l.4)
    where
      no_verdict : (v : Option Verdict) → v ≡ None → IsSome v → ⊥
      no_verdict None e f = let bad = f in cc
      no_verdict (Some v) e f = cc

  -- a run is charged no more than its bound
  pub charged_within : work_of (setting_of u p r) n (start (tree_of_rule u r) o) ≤ rule_bound u p r
  charged_within = let l = goes_on_at u p r o n c accepted reached in omega (arith, l.3)

  -- what is left at its end is a truth value, null or invalid
  pub ends_in_truth : EndsInTruth c.pending c.operands
  ends_in_truth = let l = goes_on_at u p r o n c accepted reached in at_end (setting_of u p r) (rule_depths_in u p r) c.pending c.operands l.0 l.4.cost l.4.operands_at l.4.going

  -- and so makes no more steps
  pub within_bound : n ≤ rule_bound u p r
  within_bound = omega (arith, charged_within, steps_within (setting_of u p r) n (start (tree_of_rule u r) o) c reached)

-- the verdict of a run is found within any number of steps that is no less
pub verdict_found : (u : Content) (p : Population) (r o : ℕ) (accepted : IsAcceptedRun u p r o) (f n : ℕ) (c d : Configuration) (v : Verdict) → run (setting_of u p r) n c ≡ Some d → outcome d ≡ Some v → n ≤ f → verdict_within (setting_of u p r) f c ≡ Some v
verdict_found u p r o accepted zero zero c d v ran ends le = let same : c ≡ d = cc in ap outcome same ∙ ends
verdict_found u p r o accepted (suc f) zero c d v ran ends le =
    let same : c ≡ d = cc in
    ap (λ w. first_there w (option_and_then (verdict_within (setting_of u p r) f) (step (setting_of u p r) c))) (ap outcome same ∙ ends)
verdict_found u p r o accepted zero (suc n) c d v ran ends le = absurd (omega arith)
verdict_found u p r o accepted (suc f) (suc n) c d v ran ends le = by_outcome (λ c' h. verdict_found u p r o accepted f n c' d v h ends (omega arith)) (outcome c) refl
  where
    s : Setting
    s = setting_of u p r

    by_step : ((c' : Configuration) → run s n c' ≡ Some d → verdict_within s f c' ≡ Some v) → (x : Option Configuration) → option_and_then (run s n) x ≡ Some d → option_and_then (verdict_within s f) x ≡ Some v
    by_step go None h = cc
    by_step go (Some c') h = go c' h

    stopped : (x : Option Configuration) → x ≡ None → option_and_then (run s n) x ≡ Some d → ⊥
    stopped None e h = cc
    stopped (Some y) e h = cc

    by_outcome : ((c' : Configuration) → run s n c' ≡ Some d → verdict_within s f c' ≡ Some v) → (w : Option Verdict) → outcome c ≡ w → first_there (outcome c) (option_and_then (verdict_within s f) (step s c)) ≡ Some v
    by_outcome go None e = ap (λ w. first_there w (option_and_then (verdict_within s f) (step s c))) e ∙ by_step go (step s c) ran
    by_outcome go (Some w) e = absurd (stopped (step s c) (final_stops s (rule_depths_in u p r) accepted.model accepted.population c.pending c.variables c.operands (subst IsSome (sym e) refl)) ran)

-- ---- the machine

-- where a machine stands in the run of a task
abbrev pub Stands : Task → ℕ → State → Configuration → ℕ → Type 0
Stands t o m c k = Represents (seen_in t m) t.rule o c k

module _ (t : Task) where
  -- ---- without a step

  -- a machine in the same configuration stands where it stood in the run
  pub stands_same : (o : ℕ) (m m' : State) (c : Configuration) (k : ℕ) → Same t m m' → Stands t o m c k → Stands t o m' c k
  stands_same o m m' c k h r =
      record { accepted = r.accepted; made = r.made; reached = r.reached; work = r.work; started = h.kept.started ∙ r.started; stands = record { is = h.same c r.stands.is; place = h.place }; count = h.kept.count ∙ r.count }

  -- the work of a run is within its bound
  stands_within : (o : ℕ) (m : State) (c : Configuration) (k : ℕ) → Stands t o m c k → k ≤ rule_bound t.accepted.now.unit t.population.now.content t.rule
  stands_within o m c k r = omega (arith, r.work, charged_within t.accepted.now.unit t.population.now.content t.rule o r.made c r.accepted r.reached)

  has_next : (x : Option Configuration) (d : Configuration) → x ≡ Some d → HasNext x
  has_next None d e = cc
  has_next (Some c) d e = tt

  -- a machine that stands in a run has a verdict or a next step
  pub can_go_on : (o : ℕ) (m : State) (c : Configuration) (k : ℕ) → Stands t o m c k → CanGoOn t m c
  can_go_on o m c k r =
      let u = t.accepted.now.unit in
      let p = t.population.now.content in
      record {
        is = r.stands.is;
        next = λ none. let next = goes_on u p t.rule o r.made c r.accepted r.reached none in has_next (step (setting_in t) c) next.0 next.1;
        truth = ends_in_truth u p t.rule o r.made c r.accepted r.reached;
      }

  -- the machine stands somewhere in a run of its task
  abbrev pub StandsSomewhere : State → Type 0
  StandsSomewhere m = (o : ℕ) × (c : Configuration) × (k : ℕ) × Stands t o m c k

  -- a machine that stands somewhere in a run of its task has a verdict or a next step
  pub somewhere_goes : (m : State) → StandsSomewhere m → (c : Configuration) × CanGoOn t m c
  somewhere_goes m s = (s.1, can_go_on s.0 m s.1 s.2 s.3)

  -- and in the same configuration it still stands somewhere in one
  pub somewhere_same : (m m' : State) → Same t m m' → StandsSomewhere m → StandsSomewhere m'
  somewhere_same m m' h s = (s.0, s.1, s.2, stands_same s.0 m m' s.1 s.2 h s.3)

  -- where no sequence that is through stands first, it has a next step
  pub somewhere_steps : (m : State) → IsAtFront m → (s : StandsSomewhere m) → HasNext (step (setting_in t) s.1)
  somewhere_steps m front s = (can_go_on s.0 m s.1 s.2 s.3).next (front_has_none t m s.1 s.3.stands.place front s.3.stands.is)

  -- and it has room for that step, where its stacks have room for its rule
  pub somewhere_room : (m : State) → IsAtFront m → HasRoomFor (depths_in t) m → StandsSomewhere m → Room m
  somewhere_room m front room s =
      room_is t m (depths_in t) s.1 s.3.stands.place front s.3.stands.is (stays_within_depths t.accepted.now.unit t.population.now.content t.rule s.0 s.3.made s.1 s.3.accepted s.3.reached) room

  -- room for a rule stays where the stacks have as much room
  pub room_same : (d : Depths) (m m' : State) → SameRoom m m' → HasRoomFor d m → HasRoomFor d m'
  room_same d m m' h r = record { operands = omega (arith, h.operands, r.operands); variables = omega (arith, h.variables, r.variables); pieces = omega (arith, h.pieces, r.pieces) }

  -- as much room from one state to the next, and to another
  pub rooms_joined : (m m' m'' : State) → SameRoom m m' → SameRoom m' m'' → SameRoom m m''
  rooms_joined m m' m'' h k = record { operands = k.operands ∙ h.operands; variables = k.variables ∙ h.variables; pieces = k.pieces ∙ h.pieces }

  -- ---- a step more

  -- with this count
  abbrev pub counted : State → ℕ → State
  counted m n = record m { count = n }

  -- what the machine finds that its next step is charged
  abbrev pub Charges : State → ℕ → Type 0
  Charges m n = (c : Configuration) → Is t m c → HasNext (step (setting_in t) c) → n ≡ min (charge_of c) (2 ^ 128 - 1)

  -- the charge of a next step that is charged so little that it isn't cut
  charge_is : (m : State) (n : ℕ) (c : Configuration) → Charges m n → n < 2 ^ 128 - 1 → Is t m c → HasNext (step (setting_in t) c) → n ≡ charge_of c
  charge_is m n c charge small is next = omega (arith, charge c is next, small)

  -- where the machine makes a step, its run makes one, whose charge is counted
  pub stands_next : (o : ℕ) (m m' : State) (c : Configuration) (k n : ℕ) → Stepped t m m' → n ≡ min (m'.count + charge_of c) (2 ^ 64 - 1) → HasNext (step (setting_in t) c) → Stands t o m c k
      → (d : Configuration) × (step (setting_in t) c ≡ Some d) × Stands t o (counted m' n) d (k + charge_of c)
  stands_next o m m' c k n h counts next r =
      let st = h.made c r.stands.is next in
      let old : m'.count ≡ min k (2 ^ 64 - 1) = h.kept.count ∙ r.count in
      let begin = start (tree_of_rule t.accepted.now.unit t.rule) o in (
        st.0,
        st.1,
        record {
          accepted = r.accepted;
          made = r.made + 1;
          reached = run_more (setting_in t) r.made begin c st.0 r.reached st.1;
          work = omega (arith, r.work, work_next (setting_in t) r.made begin c r.reached);
          started = h.kept.started ∙ r.started;
          stands = record { is = st.2; place = h.place };
          count = omega (arith, counts, old);
        },
      )

  -- what the count becomes by a charge that may be cut, and that is not, is the same where the count is cut
  pub count_same : (m' : State) (n charge real : ℕ) → n ≡ min (m'.count + charge) (2 ^ 64 - 1) → charge ≡ min real (2 ^ 128 - 1) → n ≡ min (m'.count + real) (2 ^ 64 - 1)
  count_same m' n charge real counts cut = omega (arith, counts, cut)

  -- after a step it still stands somewhere in a run of its task
  pub somewhere_next : (m m' : State) (n charge : ℕ) → Charges m charge → IsAtFront m → Stepped t m m' → n ≡ min (m'.count + charge) (2 ^ 64 - 1) → StandsSomewhere m → StandsSomewhere (counted m' n)
  somewhere_next m m' n charge charges front st counts s =
      let next = somewhere_steps m front s in
      let x = stands_next s.0 m m' s.1 s.2 n st (count_same m' n charge (charge_of s.1) counts (charges s.1 s.3.stands.is next)) next s.3 in
      (s.0, x.0, s.2 + charge_of s.1, x.2)

  -- steps that are charged w are made from one state to the other
  abbrev pub Came : State → ℕ → State → Type 0
  Came old w new =
      (o : ℕ) (c : Configuration) (k : ℕ) → Stands t o old c k → (n : ℕ) × (d : Configuration) × (run (setting_in t) n c ≡ Some d) × (work_of (setting_in t) n c ≡ w) × Stands t o new d (k + w)

  -- no step is made from a state to itself
  pub came_none : (m : State) → Came m 0 m
  came_none m o c k r = let e : k ≡ k + 0 = omega arith in (0, c, refl, refl, subst (Stands t o m c) e r)

  -- as many steps are made to a machine in the same configuration
  pub came_same : (old m m' : State) (w : ℕ) → Same t m m' → Came old w m → Came old w m'
  came_same old m m' w h came o c k r = let f = came o c k r in (f.0, f.1, f.2, f.3, stands_same o m m' f.1 (k + w) h f.4)

  -- and one more where the machine makes a step
  pub came_next : (old m m' new : State) (w i charge : ℕ) → Same t m m' → Charges m' charge → charge < 2 ^ 128 - 1 → IsAtFront m' → Stepped t m' new → i ≡ min (new.count + charge) (2 ^ 64 - 1) → Came old w m → Came old (w + charge) (counted new i)
  came_next old m m' new w i charge h charges small front st counts came o c k r =
      let f = came_same old m m' w h came o c k r in
      let next = somewhere_steps m' front (o, f.1, k + w, f.4) in
      let same : charge ≡ charge_of f.1 = charge_is m' charge f.1 charges small f.4.stands.is next in
      let x = stands_next o m' new f.1 (k + w) i st (counts ∙ ap (λ n. min (new.count + n) (2 ^ 64 - 1)) same) next f.4 in
      let e : k + w + charge_of f.1 ≡ k + (w + charge) = omega (arith, same) in
      (f.0 + 1, x.0, run_more (setting_in t) f.0 c f.1 x.0 f.2 x.1, omega (arith, work_next (setting_in t) f.0 c f.1 f.2, f.3, same), subst (Stands t o (counted new i) x.0) e x.2)

  -- no next step is free
  pub some_charge : (m : State) (n : ℕ) → Charges m n → IsAtFront m → StandsSomewhere m → 0 < n
  some_charge m n charges front s = omega (arith, charges s.1 s.3.stands.is (somewhere_steps m front s), charged s.1)

  -- a machine in the same configuration has the same task
  pub task_same : (m m' : State) → Same t m m' → IsTaskOf t m → IsTaskOf t m'
  task_same m m' h i = (i.0, h.kept.started ∙ i.1)

  -- and so has one that made a step
  pub task_next : (m m' new : State) (i : ℕ) → Same t m m' → Stepped t m' new → IsTaskOf t m → IsTaskOf t (counted new i)
  task_next m m' new i h st is = (is.0, st.kept.started ∙ h.kept.started ∙ is.1)

  -- ---- what a contract says of it

  its_rule : (old : State) → IsTaskOf t old → (r o : ℕ) (c : Configuration) (k : ℕ) → Represents (seen_in t old) r o c k → t.rule ≡ r
  its_rule old is r o c k h = ap rule_in (sym is.1 ∙ h.started)
    where
      rule_in : Option Started → ℕ
      rule_in None = 0
      rule_in (Some run) = run.rule

  -- what holds of the task's rule holds of each that the machine may be running
  of_its_rule : (old : State) (P : ℕ → ℕ → Configuration → ℕ → Type 0) → IsTaskOf t old → ((o : ℕ) (c : Configuration) (k : ℕ) → Stands t o old c k → P t.rule o c k) → (r o : ℕ) (c : Configuration) (k : ℕ) → Represents (seen_in t old) r o c k → P r o c k
  of_its_rule old P is h r o c k stands =
      let e = its_rule old is r o c k stands in
      subst (λ n. P n o c k) e (h o c k (subst (λ n. Represents (seen_in t old) n o c k) (sym e) stands))

  further : (o : ℕ) (old new : State) (c d : Configuration) (k n w : ℕ) → run (setting_in t) n c ≡ Some d → work_of (setting_in t) n c ≡ w → Stands t o new d (k + w) → Further (seen_in t old) t.rule o c k n d (seen_in t new)
  further o old new c d k n w ran work stands =
      let e : k + w ≡ k + work_of (setting_in t) n c = ap (λ x. k + x) (sym work) in
      let at = subst (Stands t o new d) e stands in
      record { ran = ran; stands = at; within = stands_within o new d (k + work_of (setting_in t) n c) at }

  -- a machine that is started stands in a run of its task
  pub its_stand : (m : State) → IsTaskOf t m → IsStarted (seen_in t m) → StandsSomewhere m
  its_stand m is h = let e = its_rule m is h.0 h.1 h.2 h.3 h.4 in (h.1, h.2, h.3, subst (λ n. Represents (seen_in t m) n h.1 h.2 h.3) (sym e) h.4)

  -- a machine that stands somewhere in a run is started, as its contract says
  pub is_started : (m : State) → StandsSomewhere m → IsStarted (seen_in t m)
  is_started m s = (t.rule, s.0, s.1, s.2, s.3)

  -- what is seen of it is so for an equal unit, an equal population and equal lists
  pub seen_same : (u : Content) (p : Population) (l : Lists) (m : State) → t.accepted.now.unit ≡ u → t.population.now.content ≡ p → task_lists t ≡ l → seen_in t m ≡ seen u p l m
  seen_same u p l m eu ep el = ap (λ v. seen v t.population.now.content (task_lists t) m) eu ∙ ap (λ v. seen u v (task_lists t) m) ep ∙ ap (λ v. seen u p v m) el

  -- a verdict of the machine is that of each configuration in which it can go on
  abbrev pub Tells : State → Option Verdict → Type 0
  Tells m v = (c : Configuration) → CanGoOn t m c → outcome c ≡ v

  -- a run that comes to its verdict within the grant is done
  pub is_done : (old m m' : State) (g w : ℕ) (v : Verdict) → IsTaskOf t old → w ≤ g → Same t m m' → Tells m (Some v) → Came old w m → IsDone (seen_in t old) g v (seen_in t m')
  is_done old m m' g w v is le h tells came =
      of_its_rule old _ is
      (λ o c k r.
      let f = came o c k r in
      let stands = stands_same o m m' f.1 (k + w) h f.4 in
      (f.0, f.1, tells f.1 (can_go_on o m f.1 (k + w) f.4), omega (arith, f.3, le), further o old m' c f.1 k f.0 w f.2 f.3 stands))

  -- a run whose next step is charged more than what is left of the grant, and that has no verdict, is paused
  pub is_paused : (old m m' : State) (g w charge : ℕ) → IsTaskOf t old → w ≤ g → g < w + charge → Charges m' charge → IsAtFront m' → Same t m m' → Came old w m → IsPaused (seen_in t old) g (seen_in t m')
  is_paused old m m' g w charge is le lt charges front h came =
      of_its_rule old _ is
      (λ o c k r.
      let f = came_same old m m' w h came o c k r in
      let none = front_has_none t m' f.1 f.4.stands.place front f.4.stands.is in
      let cut = charges f.1 f.4.stands.is (somewhere_steps m' front (o, f.1, k + w, f.4)) in
      (f.0, f.1, none, omega (arith, f.3, le), omega (arith, f.3, lt, cut, work_more (setting_in t) f.0 c f.1 f.2), further o old m' c f.1 k f.0 w f.2 f.3 f.4))

  -- a machine that stops for want of memory stands before a step that the grant pays for
  pub is_refused : (old m m' new : State) (g w charge : ℕ) → IsTaskOf t old → w + charge ≤ g → Charges m' charge → charge < 2 ^ 128 - 1 → IsAtFront m' → Same t m m' → Same t m' new → Came old w m → IsRefused (seen_in t old) g (seen_in t new)
  is_refused old m m' new g w charge is le charges small front h u came =
      of_its_rule old _ is
      (λ o c k r.
      let f = came_same old m m' w h came o c k r in
      let none = front_has_none t m' f.1 f.4.stands.place front f.4.stands.is in
      let same = charge_is m' charge f.1 charges small f.4.stands.is (somewhere_steps m' front (o, f.1, k + w, f.4)) in
      (f.0, f.1, none, omega (arith, f.3, le, same, work_more (setting_in t) f.0 c f.1 f.2), further o old new c f.1 k f.0 w f.2 f.3 (stands_same o m' new f.1 (k + w) u f.4)))

  -- ---- whole runs

  -- a machine that is started stands at the start of its run
  pub begun : (o : ℕ) (m : State) → IsAcceptedRun t.accepted.now.unit t.population.now.content t.rule o → IsStartOf t o m → Stands t o m (start (tree_of_rule t.accepted.now.unit t.rule) o) 0
  begun o m accepted h =
      record { accepted = accepted; made = 0; reached = refl; work = refl; started = h.started; stands = record { is = h.is; place = h.place }; count = omega (arith, h.count) }

  -- and does so for an equal unit, an equal population, equal lists and the same rule
  pub begun_for : (u : Content) (p : Population) (l : Lists) (r o : ℕ) (m : State) → t.accepted.now.unit ≡ u → t.population.now.content ≡ p → task_lists t ≡ l → t.rule ≡ r → IsAcceptedRun t.accepted.now.unit t.population.now.content r o → IsStartOf t o m → Represents (seen u p l m) r o (start (tree_of_rule u r) o) 0
  begun_for u p l r o m same_unit same_population same_lists same_rule accepted h =
      let b = begun o m (subst (λ n. IsAcceptedRun t.accepted.now.unit t.population.now.content n o) (sym same_rule) accepted) h in
      subst (λ n. Represents (seen u p l m) n o (start (tree_of_rule u n) o) 0) same_rule
      (subst (λ v. Represents (seen u p l m) t.rule o (start (tree_of_rule v t.rule) o) 0) same_unit
      (subst (λ v. Represents v t.rule o (start (tree_of_rule t.accepted.now.unit t.rule) o) 0) (seen_same u p l m same_unit same_population same_lists) b))

  -- where a run of the task stands after n steps
  abbrev pub Standing : ℕ → State → ℕ → Type 0
  Standing o m n =
      (c : Configuration) × (run (setting_in t) n (start (tree_of_rule t.accepted.now.unit t.rule) o) ≡ Some c) × Stands t o m c (work_of (setting_in t) n (start (tree_of_rule t.accepted.now.unit t.rule) o))

  -- at the start of its run a machine stands after no step
  pub standing_begun : (o : ℕ) (m : State) → IsAcceptedRun t.accepted.now.unit t.population.now.content t.rule o → IsStartOf t o m → Standing o m 0
  standing_begun o m accepted h = (start (tree_of_rule t.accepted.now.unit t.rule) o, refl, begun o m accepted h)

  -- where a run stands after some steps, it stands somewhere
  pub standing_somewhere : (o : ℕ) (m : State) (n : ℕ) → Standing o m n → StandsSomewhere m
  standing_somewhere o m n s = (o, s.0, _, s.2)

  -- a machine in the same configuration stands after as many steps
  pub standing_same : (o : ℕ) (m m' : State) (n : ℕ) → Same t m m' → Standing o m n → Standing o m' n
  standing_same o m m' n h s = (s.0, s.1, stands_same o m m' s.0 _ h s.2)

  -- and one that made a step stands after one more
  pub standing_next : (o : ℕ) (m m' : State) (n i charge : ℕ) → Charges m charge → IsAtFront m → Stepped t m m' → i ≡ min (m'.count + charge) (2 ^ 64 - 1) → Standing o m n → Standing o (counted m' i) (n + 1)
  standing_next o m m' n i charge charges front st counts s =
      let begin = start (tree_of_rule t.accepted.now.unit t.rule) o in
      let next = somewhere_steps m front (o, s.0, _, s.2) in
      let x = stands_next o m m' s.0 _ i st (count_same m' i charge (charge_of s.0) counts (charges s.0 s.2.stands.is next)) next s.2 in
      let e : work_of (setting_in t) n begin + charge_of s.0 ≡ work_of (setting_in t) (n + 1) begin = omega (arith, work_next (setting_in t) n begin s.0 s.1) in
      (x.0, run_more (setting_in t) n begin s.0 x.0 s.1 x.1, subst (Stands t o (counted m' i) x.0) e x.2)

  -- before the end, a step of the bound is left
  pub standing_below : (o : ℕ) (m : State) (n : ℕ) → IsAtFront m → Standing o m n → n < rule_bound t.accepted.now.unit t.population.now.content t.rule
  standing_below o m n front s =
      (goes_on t.accepted.now.unit t.population.now.content t.rule o n s.0 s.2.accepted s.1 (front_has_none t m s.0 s.2.stands.place front s.2.stands.is)).2

  judged_further : (old : State) (o : ℕ) (m : State) (n : ℕ) → (s : Standing o m n) → Further (seen_in t old) t.rule o (start (tree_of_rule t.accepted.now.unit t.rule) o) 0 n s.0 (seen_in t m)
  judged_further old o m n s =
      let begin = start (tree_of_rule t.accepted.now.unit t.rule) o in
      let whole : work_of (setting_in t) n begin ≡ 0 + work_of (setting_in t) n begin = omega arith in
      further o old m begin s.0 0 n (work_of (setting_in t) n begin) s.1 refl (subst (Stands t o m s.0) whole s.2)

  -- a whole run that ends with a verdict has judged the object, as the contract of `judge` says
  pub is_judged : (old : State) (o : ℕ) (m m' : State) (n : ℕ) (v : Verdict) → Tells m (Some v) → Same t m m' → Standing o m n → Judged (seen_in t old) t.rule o (Ok v) (seen_in t m')
  is_judged old o m m' n v tells h s = (n, s.0, tells s.0 (can_go_on o m s.0 _ s.2), judged_further old o m' n (s.0, s.1, stands_same o m m' s.0 _ h s.2))

  -- and one that runs out of memory stands before a step, as that contract says
  pub is_judge_refused : (old m new : State) (o n : ℕ) (x : OutOfMemory) → IsAtFront m → Same t m new → Standing o m n → Judged (seen_in t old) t.rule o (Err x) (seen_in t new)
  is_judge_refused old m new o n x front h s = (n, s.0, front_has_none t m s.0 s.2.stands.place front s.2.stands.is, judged_further old o new n (s.0, s.1, stands_same o m new s.0 _ h s.2))

  -- the verdict that a whole run ends with is the rule's verdict for the object
  pub its_verdict : (o : ℕ) (m : State) (k : ℕ) (v : Verdict) → Tells m (Some v) → Standing o m k → verdict_at t.accepted.now.unit t.population.now.content t.rule o ≡ Some v
  its_verdict o m k v tells s =
      let u = t.accepted.now.unit in
      let p = t.population.now.content in
      verdict_found u p t.rule o s.2.accepted (rule_bound u p t.rule) k (start (tree_of_rule u t.rule) o) s.0 v s.1 (tells s.0 (can_go_on o m s.0 _ s.2)) (within_bound u p t.rule o k s.0 s.2.accepted s.1)

-- after a whole run, or a part of one, a machine stands in a run
pub judged_stands : (old : Seen) (r o : ℕ) (x : Result Verdict OutOfMemory) (new : Seen) → Judged old r o x new → IsStarted new
judged_stands old r o (Ok v) new j = (r, o, j.1, _, j.3.stands)
judged_stands old r o (Err e) new j = (r, o, j.1, _, j.3.stands)
